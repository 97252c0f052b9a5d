-- `rows::column::all_zero` meets its contract: a list of which each is zero is as many zeros.
use mathlib.Core.Path.{◌∙◌}
use lib.Dec.{eqb}
use Rattle.std.proofs.Common.{rules, tests}
use Rattle.std.proofs.lemmas.Iterator.{YieldsList-from_slice}
use Rattle.std.proofs.lemmas.Iterator.Search.{all_from_yields_List}
use Rattle.rows.proofs.Zero.{no_other}
use Rattle.rows.proofs.column.all_zero.Goals as goal

pub returns : goal.returns
returns c =
    let d = c.args.d.now in
    all_from_yields_List (λ b. eqb b 0) _ _ _ c.all.ensures.ran (YieldsList-from_slice d cc) (λ x b q k. search (rules, tests)) ∙ no_other d
