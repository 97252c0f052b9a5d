-- `body::find` meets its contract: the search runs on a well-formed body only, and comes there to what the definition says; and a slice holds bytes.
use mathlib.Core.Path.{sym, ◌∙◌}
use native.Mathlib.Omega.{arith}
use Rattle.words.proofs.ByteLaws.{bytes_of}
use Rattle.body.proofs.Searched.{found_is, found_not}
use Rattle.body.proofs.find.Goals as goal

pub returns-then-well_formed : goal.returns-then-well_formed
returns-then-well_formed c =
    let g = c.args in (
      c.seek.ensures ∙ found_is g.uuid.low g.uuid.high g.body.now (sym c.well_formed-2.ensures ∙ c.if-well_formed.true),
      bytes_of _ (λ i. omega (arith, c.type_inv.body i)),
    )

pub returns-else-well_formed : goal.returns-else-well_formed
returns-else-well_formed c =
    let g = c.args in (
      found_not g.uuid.low g.uuid.high g.body.now (sym c.well_formed-2.ensures ∙ c.if-well_formed.false),
      bytes_of _ (λ i. omega (arith, c.type_inv.body i)),
    )
