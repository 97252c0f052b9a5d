-- The UUIDs that have come, with one event more: by recursion on the events.
use Prim.Native.Nat.{ℕ, ◌≤◌}
use mathlib.Core.Path.{◌≡◌, refl, ap, ap₂, ◌∙◌}
use mathlib.Core.Bool.{Bool, true, false, cond}
use mathlib.Core.List.{List, [], ◌∷◌, ◌++◌}
use native.Mathlib.Omega.{arith}
use lib.ListN.{length, length-append}
use Rattle.words.specs.Slices.{same}
use Rattle.words.proofs.SliceLaws.{same_refl}
use Rattle.replay.specs.Trace.{Event}
use Rattle.replay.specs.Acceptance.{within, joined, gathered, distinct}
use Rattle.words.proofs.Either.{differ}

gathered_more : (us : List (List ℕ)) (es : List Event) (e : Event) → gathered us (es ++ (e ∷ [])) ≡ joined (gathered us es) e.uuid
unfolding gathered
gathered_more us [] e = refl
gathered_more us (x ∷ es) e = gathered_more (joined us x.uuid) es e

pub distinct_more : (es : List Event) (e : Event) → distinct (es ++ (e ∷ [])) ≡ joined (distinct es) e.uuid
distinct_more es e = gathered_more [] es e

pub within_last : (u w : List ℕ) (us : List (List ℕ)) → within u (us ++ (w ∷ [])) ≡ cond (within u us) true (same w u)
unfolding within
within_last u w [] = by (same w u)
  where
    by : (b : Bool) → cond b true false ≡ b
    by true = refl
    by false = refl
within_last u w (v ∷ us) = by (same v u) (within u (us ++ (w ∷ []))) (within u us) (within_last u w us)
  where
    by : (b x y : Bool) → x ≡ cond y true (same w u) → cond b true x ≡ cond (cond b true y) true (same w u)
    by true x y e = refl
    by false x y e = e

module _ (us : List (List ℕ)) (w : List ℕ) where
  pub joined_old : within w us ≡ true → joined us w ≡ us
  joined_old e = rw e

  pub joined_new : within w us ≡ false → joined us w ≡ us ++ (w ∷ [])
  joined_new e = rw e

  pub joined_own : within w (joined us w) ≡ true
  joined_own = by (within w us) refl
    where
      by : (b : Bool) → within w us ≡ b → within w (cond b us (us ++ (w ∷ []))) ≡ true
      by true e = e
      by false e = within_last w w us ∙ ap₂ (λ (x y : Bool). cond x true y) e (same_refl w)

  pub joined_other : (u : List ℕ) → (w ≡ u → ⊥) → within u (joined us w) ≡ within u us
  joined_other u n = by (within w us)
    where
      last : (x : Bool) → cond x true false ≡ x
      last true = refl
      last false = refl

      by : (b : Bool) → within u (cond b us (us ++ (w ∷ []))) ≡ within u us
      by true = refl
      by false = within_last u w us ∙ ap (cond (within u us) true) (differ w u n) ∙ last (within u us)

  pub joined_long : length us ≤ length (joined us w)
  joined_long = by (within w us)
    where
      by : (b : Bool) → length us ≤ length (cond b us (us ++ (w ∷ [])))
      by true = omega arith
      by false = simp length-append (omega arith)
