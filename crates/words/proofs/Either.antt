-- Each test either holds or not: of two numbers and of two lists, by cases on the answer.
use Prim.Native.Nat.{ℕ, ◌<◌, ◌≤◌}
use mathlib.Core.Path.{◌≡◌, refl, sym, ap, ◌∙◌}
use mathlib.Core.Bool.{Bool, true, false, true≢false}
use mathlib.Core.Logic.{◌⊎◌, inl, inr}
use mathlib.Core.List.{List}
use lib.Dec.{eqb, ltb}
use borrow.Author.Tests.{ltb-true, ltb-false, eqb-true, eqb-false}
use Rattle.words.specs.Slices.{same}
use Rattle.words.proofs.SliceLaws.{same_refl, same_true}

pub lt_or_ge : (a b : ℕ) → (a < b) ⊎ (b ≤ a)
lt_or_ge a b = by (ltb a b) refl
  where
    by : (t : Bool) → ltb a b ≡ t → (a < b) ⊎ (b ≤ a)
    by true e = inl (ltb-true a b e)
    by false e = inr (ltb-false a b e)

pub eq_or_ne : (a b : ℕ) → (a ≡ b) ⊎ (a ≡ b → ⊥)
eq_or_ne a b = by (eqb a b) refl
  where
    by : (t : Bool) → eqb a b ≡ t → (a ≡ b) ⊎ (a ≡ b → ⊥)
    by true e = inl (eqb-true a b e)
    by false e = inr (eqb-false a b e)

pub same_false : (a b : List ℕ) → same a b ≡ false → a ≡ b → ⊥
same_false a b h e = true≢false (sym (same_refl a) ∙ ap (same a) e ∙ h)

pub differ : (a b : List ℕ) → (a ≡ b → ⊥) → same a b ≡ false
differ a b n = by (same a b) refl
  where
    by : (t : Bool) → same a b ≡ t → t ≡ false
    by true e = absurd (n (same_true a b e))
    by false e = refl

pub alike_or_not : (a b : List ℕ) → (a ≡ b) ⊎ (a ≡ b → ⊥)
alike_or_not a b = by (same a b) refl
  where
    by : (t : Bool) → same a b ≡ t → (a ≡ b) ⊎ (a ≡ b → ⊥)
    by true e = inl (same_true a b e)
    by false e = inr (same_false a b e)
