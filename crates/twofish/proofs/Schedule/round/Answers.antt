-- `twofish::Schedule::round` meets its contract: as its definition goes.
use Rattle.words.specs.Table.{at}
use Rattle.twofish.specs.Tabled.{tabled_g}
use Rattle.twofish.proofs.Steps.{round_made}
use Rattle.twofish.proofs.Schedule.round.Goals as goal

pub returns : goal.returns
returns c =
    let a = c.args in
    let x = a.x in
    let s = a.self.now in
    round_made (tabled_g s.g) (at s.k) a.i x.a x.b x.c x.d c.f-p.ensures.first c.f-p.ensures.second c.right.ensures c.left.ensures
