-- The greatest number up to n of which p holds: within n, p holds of it where it holds of 0, and it is no less than any other; by recursion on n.
use Prim.Native.Nat.{ℕ, zero, suc, ◌≤◌}
use mathlib.Core.Path.{◌≡◌, refl, sym, ap, ◌∙◌}
use mathlib.Core.Bool.{Bool, true, false, cond, false≢true}
use native.Mathlib.Omega.{arith}
use Rattle.text.specs.Decision.{greatest}

module _ (p : ℕ → Bool) where
  pub greatest_within : (n : ℕ) → greatest p n ≤ n
  unfolding greatest
  greatest_within zero = omega arith
  greatest_within (suc n) = by (p (suc n)) (greatest_within n)
    where
      by : (b : Bool) → greatest p n ≤ n → cond b (suc n) (greatest p n) ≤ suc n
      by true h = omega arith
      by false h = omega arith

  pub greatest_holds : p 0 ≡ true → (n : ℕ) → p (greatest p n) ≡ true
  unfolding greatest
  greatest_holds z zero = z
  greatest_holds z (suc n) = by (p (suc n)) refl (greatest_holds z n)
    where
      by : (b : Bool) → p (suc n) ≡ b → p (greatest p n) ≡ true → p (cond b (suc n) (greatest p n)) ≡ true
      by true e h = e
      by false e h = h

  pub greatest_most : (n m : ℕ) → m ≤ n → p m ≡ true → m ≤ greatest p n
  unfolding greatest
  greatest_most zero m l h = l
  greatest_most (suc n) m l h = by (p (suc n)) refl (λ k. greatest_most n m k h)
    where
      by : (b : Bool) → p (suc n) ≡ b → (m ≤ n → m ≤ greatest p n) → m ≤ cond b (suc n) (greatest p n)
      by true e k = l
      by false e k = k (below (λ z. false≢true (sym e ∙ ap p (sym z) ∙ h)))
        where
          below : (m ≡ suc n → ⊥) → m ≤ n
          below o = omega arith
