-- An entry is 32 zeros where its four numbers of 8 bytes are 0, and only there: a number is 0 where all its bytes are.
use Prim.Native.Nat.{ℕ, zero, suc, ◌+◌, ◌*◌, ◌^◌}
use mathlib.Core.Path.{◌≡◌, refl, sym, ap, ap₂, ◌∙◌}
use mathlib.Core.Bool.{false}
use mathlib.Core.Logic.{⊎_elim}
use mathlib.Core.List.{List, [], ◌∷◌}
use native.Mathlib.Omega.{arith}
use lib.Dec.{eqb}
use lib.ListN.{length, take, drop, take-append-drop, drop_of_length-le}
use lib.Seq.{drop-drop}
use borrow.Author.Tests.{eq-eqb, ne_eqb}
use Rattle.words.specs.Numbers.{number_low}
use Rattle.words.specs.Slices.{zeros, same}
use Rattle.words.proofs.NumberLaws.{number_append}
use Rattle.words.proofs.SliceLaws.{same_refl}
use Rattle.words.proofs.Either.{differ, eq_or_ne}

number_zero : (l : List ℕ) → number_low l ≡ 0 → l ≡ zeros (length l)
unfolding number_low
number_zero [] h = refl
number_zero (b ∷ l) h =
    let z : b ≡ 0 = omega arith in
    let w : number_low l ≡ 0 = omega arith in
    ap₂ ◌∷◌ z (number_zero l w)

-- any part of zeros
pub none_in : (k p n : ℕ) → number_low (take k (drop p (zeros n))) ≡ 0
unfolding number_low
none_in zero p n = refl
none_in (suc k) zero zero = refl
none_in (suc k) (suc p) zero = refl
none_in (suc k) zero (suc n) = let z : number_low (take k (zeros n)) ≡ 0 = none_in k zero n in omega arith
none_in (suc k) (suc p) (suc n) = none_in (suc k) p n

module _ (e : List ℕ) where
  peel : (p q : ℕ) → q ≡ p + 8 → number_low (take 8 (drop p e)) ≡ 0 → number_low (drop q e) ≡ 0 → number_low (drop p e) ≡ 0
  peel p q i h r =
      let s = take 8 (drop p e) in
      let t : drop 8 (drop p e) ≡ drop q e = drop-drop 8 p e ∙ ap (λ (n : ℕ). drop n e) (sym i) in
      ap number_low (sym (take-append-drop 8 (drop p e))) ∙ number_append s (drop 8 (drop p e))
      ∙ ap₂ (λ (a b : ℕ). a + 2 ^ (8 * length s) * b) h (ap number_low t ∙ r) ∙ omega arith

  module _ (l : length e ≡ 32) where
    none : number_low (drop 32 e) ≡ 0
    unfolding number_low
    none = ap number_low (drop_of_length-le e {i = 32} (omega arith))

    all_zero : number_low (take 8 (drop 0 e)) ≡ 0 → number_low (take 8 (drop 8 e)) ≡ 0
        → number_low (take 8 (drop 16 e)) ≡ 0 → number_low (take 8 (drop 24 e)) ≡ 0 → e ≡ zeros 32
    all_zero a b c d = number_zero e (peel 0 8 refl a (peel 8 16 refl b (peel 16 24 refl c (peel 24 32 refl d none)))) ∙ ap zeros l

  -- one number that is not 0
  pub not_blank : (p m : ℕ) → m ≡ number_low (take 8 (drop p e)) → (m ≡ 0 → ⊥) → false ≡ same e (zeros 32)
  not_blank p m h n = sym (differ e (zeros 32) (λ z. n (h ∙ ap (λ (x : List ℕ). number_low (take 8 (drop p x))) z ∙ none_in 8 p 32)))

  -- the last, when the others are 0
  pub blank_is : (a b c d : ℕ) → length e ≡ 32 → a ≡ number_low (take 8 (drop 0 e)) → b ≡ number_low (take 8 (drop 8 e))
      → c ≡ number_low (take 8 (drop 16 e)) → d ≡ number_low (take 8 (drop 24 e)) → a ≡ 0 → b ≡ 0 → c ≡ 0 → eqb d 0 ≡ same e (zeros 32)
  blank_is a b c d l p q r s i j k =
      ⊎_elim
      (λ z. eq-eqb d 0 z ∙ sym (same_refl e) ∙ ap (same e) (all_zero l (sym p ∙ i) (sym q ∙ j) (sym r ∙ k) (sym s ∙ z)))
      (λ z. ne_eqb d 0 z ∙ not_blank 24 d s z)
      (eq_or_ne d 0)
