-- `twofish::Schedule::unround` meets its contract: as its definition goes.
use Rattle.words.specs.Table.{at}
use Rattle.twofish.specs.Tabled.{tabled_g}
use Rattle.twofish.proofs.Steps.{unround_made}
use Rattle.twofish.proofs.Schedule.unround.Goals as goal

pub returns : goal.returns
returns c =
    let a = c.args in
    let x = a.x in
    let s = a.self.now in
    unround_made (tabled_g s.g) (at s.k) a.i x.c x.d x.a x.b c.f-p.ensures.first c.f-p.ensures.second c.left.ensures c.right.ensures
