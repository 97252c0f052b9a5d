-- `twofish::Schedule::f` meets its contract: the transform of two look-ups of g, each word with its subkey.
use Rattle.words.specs.Table.{at}
use Rattle.twofish.specs.Tabled.{tabled_g}
use Rattle.twofish.proofs.Steps.{F0_made, F1_made}
use Rattle.twofish.proofs.Schedule.f.Goals as goal

pub returns : goal.returns
returns c =
    let a = c.args in
    let s = a.self.now in
    let g = tabled_g s.g in
    let k = at s.k in
    let t = c.transformed.ensures in
    record {
      first = F0_made g k a.i a.a a.b c.g.ensures c.left.ensures c.g-2.ensures t.first;
      second = F1_made g k a.i a.a a.b c.g.ensures c.left.ensures c.g-2.ensures t.second;
    }
