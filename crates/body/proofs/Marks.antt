-- A mark is a bit: after one more, a type is marked that was marked or is this one. By the digits, and one computed test over the 20 types.
use Prim.Native.Nat.{ℕ, zero, suc, ◌/◌, ◌%◌, ◌^◌, ◌<◌}
use mathlib.Core.Path.{◌≡◌, refl, ap, ◌∙◌}
use mathlib.Core.Bool.{Bool, true, false, cond, ◌||◌}
use native.Mathlib.Omega.{arith}
use lib.Bits.{bit_or, or_shr, or_mod, or_zero_l, or_zero_r, or_self}
use lib.Dec.{eqb}
use Rattle.words.proofs.Every.{every, agree, all}
use Rattle.body.specs.Tally.{is_marked, with_mark}

-- of two digits
either : (x y : ℕ) (b : Bool) → x < 2 → y ≡ cond b 1 0 → eqb (bit_or x y) 1 ≡ (b || eqb x 1)
either zero y b h e = rw (e, or_zero_l (cond b 1 0)) (by b)
  where
    by : (b : Bool) → eqb (cond b 1 0) 1 ≡ (b || false)
    by true = refl
    by false = refl
either (suc zero) y b h e = rw e (by b)
  where
    by : (b : Bool) → eqb (bit_or 1 (cond b 1 0)) 1 ≡ (b || true)
    by true = ap (λ (n : ℕ). eqb n 1) (or_self 1)
    by false = ap (λ (n : ℕ). eqb n 1) (or_zero_r 1)
either (suc (suc x)) y b h e = absurd (omega arith)

digit : (j k : ℕ) → j < 20 → k < 20 → 2 ^ j / 2 ^ k % 2 ≡ cond (eqb j k) 1 0
digit j k h g = agree (λ k. 2 ^ j / 2 ^ k % 2) (λ k. cond (eqb j k) 1 0) 20 (every (λ j. all (λ k. eqb (2 ^ j / 2 ^ k % 2) (cond (eqb j k) 1 0)) 20) 20 tt j h) k g

pub mark_seen : (w j k : ℕ) → j < 20 → k < 20 → is_marked (with_mark w j) k ≡ (eqb j k || is_marked w k)
mark_seen w j k h g =
    ap (λ (n : ℕ). eqb n 1) (ap (λ (n : ℕ). n % 2) (or_shr w (2 ^ j) k) ∙ or_mod (w / 2 ^ k) (2 ^ j / 2 ^ k) 1)
    ∙ either (w / 2 ^ k % 2) (2 ^ j / 2 ^ k % 2) (eqb j k) (omega arith) (digit j k h g)

pub none_seen : (k : ℕ) → k < 20 → is_marked 0 k ≡ false
none_seen k h = ap (λ (n : ℕ). eqb n 1) (agree (λ k. 0 / 2 ^ k % 2) (λ k. 0) 20 tt k h)
