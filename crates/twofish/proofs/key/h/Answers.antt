-- `twofish::key::h` meets its contract: what its four bytes add up to.
use Rattle.words.specs.Table.{at}
use Rattle.twofish.proofs.Lookups.{added}
use borrow.Author.Rules.{rules}
use Rattle.twofish.proofs.key.h.Goals as goal

pub returns : goal.returns
returns c =
    let a = c.args in
    cc (added (at a.t0.now) (at a.t1.now) (λ i. search rules) (λ i. search rules) a.l.now a.x)
