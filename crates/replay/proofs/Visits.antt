-- A look-up visits every entry: its step is odd, and so has an inverse modulo 4,096, of which each of the 64 steps is computed.
use Prim.Native.Nat.{ℕ, ◌+◌, ◌*◌, ◌-◌, ◌/◌, ◌%◌, ◌<◌}
use mathlib.Core.Path.{◌≡◌, sym, ap, ◌∙◌}
use mathlib.Core.List.{List}
use native.Mathlib.Nat.{mod-add-div, mul_assoc, mul_comm, mul-add, add-mul}
use native.Mathlib.Omega.{arith}
use Rattle.words.proofs.Every.{agree}
use Rattle.replay.specs.State.{spread_of, start_of, step_of, slot}
use Rattle.replay.proofs.Places.{spread_small}

-- an approach to the inverse of a; a itself is one to three bits, and each step doubles them
abbrev closer : ℕ → ℕ → ℕ
closer a b = b * (4098 - a * b % 4096) % 4096

abbrev inverse : ℕ → ℕ
inverse a = closer a (closer a a)

inverses : (i : ℕ) → i < 64 → (2 * i + 1) * inverse (2 * i + 1) % 4096 ≡ 1
inverses = agree (λ i. (2 * i + 1) * inverse (2 * i + 1) % 4096) (λ i. 1) 64 tt

-- with the inverse b of a, x steps from s on lead x further
reaches : (s x a b c : ℕ) → a * b ≡ 1 + 4096 * c → (s + x * b % 4096 * a) % 4096 ≡ (s + x) % 4096
reaches s x a b c h =
    let d = x * b % 4096 in
    let q = x * b / 4096 in
    let e : d + 4096 * q ≡ x * b = mod-add-div (x * b) 4096 in
    let f : d * a + 4096 * (q * a) ≡ x + 4096 * (x * c) =
    ap (λ (n : ℕ). d * a + n) (sym (mul_assoc 4096 q a)) ∙ sym (add-mul d (4096 * q) a) ∙ ap (λ (n : ℕ). n * a) e ∙ mul_assoc x b a
    ∙ ap (λ (n : ℕ). x * n) (mul_comm b a ∙ h) ∙ mul-add x 1 (4096 * c) ∙ turned x c in
    omega arith
  where
    turned : (x c : ℕ) → x * 1 + x * (4096 * c) ≡ x + 4096 * (x * c)
    turned x c = let g : x * (4096 * c) ≡ 4096 * (x * c) = mul_comm x (4096 * c) ∙ mul_assoc 4096 c x ∙ ap (λ (n : ℕ). 4096 * n) (mul_comm c x) in omega arith

pub visits : (u : List ℕ) (k : ℕ) → k < 4096 → (d : ℕ) × (d < 4096) × (slot u d ≡ k)
visits u k l =
    let i = spread_of u / 16384 % 64 in
    let a = step_of u in
    let b = inverse a in
    let x = k + 4096 - start_of u in
    let small : start_of u < 4096 = omega (arith, spread_small u) in
    let h : a * b ≡ 1 + 4096 * (a * b / 4096) = sym (mod-add-div (a * b) 4096) ∙ ap (λ (n : ℕ). n + 4096 * (a * b / 4096)) (inverses i (omega arith)) in
    (x * b % 4096, omega arith, reaches (start_of u) x a b (a * b / 4096) h ∙ omega (arith, small))
