-- `file::first_marker` meets its contract: std's search goes along the blocks as the definition does.
use mathlib.Core.Path.{◌≡◌, ap, ap₂, ◌∙◌}
use mathlib.Core.Bool.{cond}
use Prim.Native.Nat.{ℕ, ◌/◌}
use borrow.Author.Rules.{rules}
use borrow.Author.Tests.{tests}
use lib.Dec.{ltb}
use lib.ListN.{length}
use Rattle.std.specs.Prelude.{Some, None}
use Rattle.std.specs.List.{position_or_len}
use Rattle.std.proofs.lemmas.Iterator.{YieldsList-from_slice}
use Rattle.std.proofs.lemmas.Iterator.Search.{position_from_yields_List}
use Rattle.words.specs.Slices.{same}
use Rattle.file.proofs.Markers.{searched}
use Rattle.file.proofs.first_marker.Goals as goal

pub returns : goal.returns
returns c =
    let s = c.args.s.now in
    let m = c.marker-m.result in
    let blocks = c.as_chunks.result.0.now in
    let e : position_or_len (λ b. same b m) blocks ≡ _ =
    ap (position_or_len (λ b. same b m)) c.as_chunks.ensures.front ∙ searched m c.marker-m.ensures (length s / 16) s in
    position_from_yields_List (λ b. same b m) _ _ _ c.position.ensures.ran (YieldsList-from_slice blocks cc) (λ x b q k. search (rules, tests))
    ∙ ap₂ (λ (k n : ℕ). cond (ltb k n) (Some k) None) e c.as_chunks.ensures.front_len
