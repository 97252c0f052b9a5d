-- `rows::column::before_zero` meets its contract: the place of the first zero byte, or the length where there is none.
use mathlib.Core.Path.{ap, ◌∙◌}
use lib.Dec.{eqb}
use lib.ListN.{length}
use Rattle.std.proofs.Common.{rules, tests, ℕ, Option, unwrap_or}
use Rattle.std.proofs.lemmas.Iterator.{YieldsList-from_slice}
use Rattle.std.proofs.lemmas.Iterator.Search.{position_from_yields_List}
use Rattle.rows.proofs.Zero.{first_zero}
use Rattle.rows.proofs.column.before_zero.Goals as goal

pub returns-clause-value : goal.returns-clause-value
returns-clause-value c =
    let d = c.args.d.now in
    c.unwrap_or.ensures
    ∙ ap (λ (o : Option ℕ). unwrap_or o (length d)) (position_from_yields_List (λ b. eqb b 0) _ _ _ c.position.ensures.ran (YieldsList-from_slice d cc) (λ x b q k. search (rules, tests)))
    ∙ first_zero d
