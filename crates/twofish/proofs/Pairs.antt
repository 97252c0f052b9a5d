-- The subkeys as the code makes them, pair by pair: an even and an odd number are told apart by their remainder.
use mathlib.Core.Path.{◌≡◌, refl, sym, ap, ap₂, ◌∙◌}
use mathlib.Core.List.{List}
use Prim.Native.Nat.{ℕ, ◌+◌, ◌*◌, ◌/◌, ◌%◌, ◌^◌}
use native.Mathlib.Nat.{add-zero}
use native.Mathlib.Omega.{arith}
use borrow.Author.Tests.{eq-eqb, ne_eqb}
use Rattle.words.specs.Rotation.{rotate_left}
use Rattle.twofish.specs.Key.{word_a, word_b, subkey}

module _ (q0 q1 : ℕ → ℕ) (e o : List ℕ) (i : ℕ) where
  even_is : subkey q0 q1 e o (2 * i) ≡ (word_a q0 q1 e i + word_b q0 q1 o i) % 2 ^ 32
  unfolding subkey
  even_is =
      let p : 2 * i % 2 ≡ 0 = omega arith in
      let q : 2 * i / 2 ≡ i = omega arith in
      rw (eq-eqb (2 * i % 2) 0 p, q) refl

  odd_is : subkey q0 q1 e o (2 * i + 1) ≡ rotate_left 32 9 ((word_a q0 q1 e i + 2 * word_b q0 q1 o i) % 2 ^ 32)
  unfolding subkey
  odd_is =
      let p : (2 * i + 1) % 2 ≡ 0 → ⊥ = omega arith in
      let q : (2 * i + 1) / 2 ≡ i = omega arith in
      rw (ne_eqb ((2 * i + 1) % 2) 0 p, q) refl

  pub even : {a b v : ℕ} → a ≡ word_a q0 q1 e i → b ≡ word_b q0 q1 o i → v ≡ (a + b + 0) % 2 ^ 32 → v ≡ subkey q0 q1 e o (2 * i)
  even p q r =
      r
      ∙ ap₂ (λ (x y : ℕ). (x + y + 0) % 2 ^ 32) p q
      ∙ ap (λ (x : ℕ). x % 2 ^ 32) (add-zero (word_a q0 q1 e i + word_b q0 q1 o i))
      ∙ sym even_is

  pub odd : {a b u v : ℕ} → a ≡ word_a q0 q1 e i → b ≡ word_b q0 q1 o i → u ≡ (a + 2 * b + 0) % 2 ^ 32 → v ≡ rotate_left 32 9 u
      → v ≡ subkey q0 q1 e o (2 * i + 1)
  odd p q r z =
      z
      ∙ ap (rotate_left 32 9)
      (r ∙ ap₂ (λ (x y : ℕ). (x + 2 * y + 0) % 2 ^ 32) p q
      ∙ ap (λ (x : ℕ). x % 2 ^ 32) (add-zero (word_a q0 q1 e i + 2 * word_b q0 q1 o i)))
      ∙ sym odd_is
