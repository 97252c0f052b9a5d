-- `twofish::field::half` meets its contract: an even byte and an odd one, as the definition has them.
use Rattle.twofish.specs.Columns.{half}
use borrow.Author.Tests.{eq-eqb, ne_eqb}
use Rattle.twofish.proofs.field.half.Goals as goal

pub returns-then-x-eq0 : goal.returns-then-x-eq0
unfolding half
returns-then-x-eq0 c = simp (eq-eqb _ _ c.if-x-eq0.true)

pub returns-else-x-eq0 : goal.returns-else-x-eq0
unfolding half
returns-else-x-eq0 c = simp (ne_eqb _ _ c.if-x-eq0.false)
