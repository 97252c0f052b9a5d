-- `probe::pieces` meets its contract: the state is always the one after the bytes before those that are left.
use mathlib.Core.Path.{◌≡◌, sym, ap, ◌∙◌}
use mathlib.Core.List.{List, [], ◌∷◌, ◌++◌, append_assoc, append-nil}
use Prim.Native.Nat.{ℕ}
use native.Mathlib.Omega.{arith}
use lib.ListN.{length}
use Rattle.sha256.specs.Sha256.{digest_of, hash_of, sha256}
use Rattle.probe.proofs.pieces.Goals as goal

-- nothing is left
whole : (t r : List ℕ) → length r ≡ 0 → t ++ r ≡ t
whole t [] e = append-nil t
whole t (a ∷ r) e = absurd (omega arith)

pub loop-part-init : goal.loop-part-init
loop-part-init c = ([], sym (ap (λ i. i.rest.now) c.into_iter-part-iterator.ensures.into_iter_gives ∙ c.chunks-part-items.ensures.rest), c.start-st.ensures)

pub loop-part-preserved : goal.loop-part-preserved
loop-part-preserved c =
    let v = c.loop-part.invariant in
    (v.0 ++ c.in-Some.part.now, v.1 ∙ ap (λ (r : List ℕ). v.0 ++ r) c.in-Some.ensures.steps.1.0 ∙ sym (append_assoc v.0 c.in-Some.part.now _), c.take_in-st.ensures v.0 v.2)

pub returns : goal.returns
unfolding sha256
returns c =
    let v = c.loop-part.invariant in
    c.digest.ensures ∙ ap digest_of (c.finish.ensures v.0 v.2 ∙ ap hash_of (sym (v.1 ∙ whole v.0 _ c.in-None.ensures.steps.1.0)))
