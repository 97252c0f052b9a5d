-- `replay::table::is_state` meets its contract: by the length, and the test of all parts.
use Rattle.std.proofs.lemmas.Iterator.{YieldsList-from_slice}
use Rattle.std.proofs.lemmas.Iterator.Search.{all_from_yields_List}
use Rattle.std.proofs.Common.{rules, tests}
use mathlib.Core.Path.{◌≡◌, ap, ◌∙◌}
use borrow.Author.Tests.{ne_eqb}
use lib.ListN.{length}
use Prim.Native.Nat.{◌/◌}
use Rattle.std.specs.List.{list_all}
use Rattle.replay.specs.State.{is_state, tidy}
use Rattle.replay.proofs.Chunks.{all_tidy}
use Rattle.replay.proofs.table.is_state.Goals as goal

pub returns-then-state-eq131072 : goal.returns-then-state-eq131072
unfolding is_state
returns-then-state-eq131072 c =
    let s = c.args.state.now in
    let e : length s ≡ 131072 = c.if-state-eq131072.true in
    all_from_yields_List {all = c.as_chunks.result.0.now} tidy _ _ _ c.all.ensures.ran (YieldsList-from_slice _ cc) (λ x b q k. search (rules, tests))
    ∙ ap (list_all tidy) c.as_chunks.ensures.front ∙ all_tidy (length s / 32) s ∙ rw e

pub returns-else-state-eq131072 : goal.returns-else-state-eq131072
unfolding is_state
returns-else-state-eq131072 c = rw (ne_eqb (length c.args.state.now) 131072 c.if-state-eq131072.false)
