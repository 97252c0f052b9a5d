-- Hex digits: what the definitions come to at every byte, and at every value; all computed.
use mathlib.Core.Path.{◌≡◌, refl, sym, ap, subst}
use mathlib.Core.Bool.{Bool, true, false, not, cond, ◌&&◌, ◌||◌}
use mathlib.Core.List.{List, [], ◌∷◌}
use Prim.Native.Nat.{ℕ, suc, ◌<◌, ◌≤◌}
use native.Mathlib.Omega.{arith}
use lib.Dec.{T, ltb, leb, eqb, eqb→eq}
use lib.ListN.{length}
use borrow.Author.Tests.{ltb-true, ltb-false, lt-ltb, le-ltb}
use Rattle.std.specs.Prelude.{Option, Some, None, is_some}
use Rattle.std.specs.Option.{unwrap_or}
use Rattle.words.specs.Hex.{lower_digits, upper_digits, index_in, hex_value, hex_digit}
use Rattle.words.proofs.Every.{all, every, agree}

-- two functions that agree at every number from low to below high
pub between : (f g : ℕ → ℕ) (low high : ℕ) → T (all (λ k. ltb k low || eqb (f k) (g k)) high) → (b : ℕ) → low ≤ b → b < high → f b ≡ g b
between f g low high t b h k =
    eqb→eq (f b) (g b)
    (subst (λ (x : Bool). T (x || eqb (f b) (g b))) (le-ltb b low h) (every (λ m. ltb m low || eqb (f m) (g m)) high t b k))

-- 0 to 9, A to F, a to f
abbrev pub ranges : ℕ → Bool
ranges b = (leb 0x30 b && leb b 0x39) || ((leb 0x41 b && leb b 0x46) || (leb 0x61 b && leb b 0x66))

alike : (x y : Bool) → T (cond x y (not y)) → x ≡ y
alike true true t = refl
alike true false t = absurd t
alike false true t = absurd t
alike false false t = refl

-- these bytes are digits, and no others
pub digits_are : (b : ℕ) → b < 256 → ltb (hex_value b) 16 ≡ ranges b
unfolding hex_value
digits_are b h =
    alike (ltb (hex_value b) 16) (ranges b) (every (λ k. cond (ltb (hex_value k) 16) (ranges k) (not (ranges k))) 256 tt b h)

-- a digit that was written is read back
pub read_back : (v : ℕ) → v < 16 → hex_value (hex_digit v) ≡ v
unfolding hex_value hex_digit
read_back = agree (λ v. hex_value (hex_digit v)) (λ v. v) 16 tt

-- ---- what a byte is told to be
abbrev pub told : ℕ → Option ℕ
told b = cond (ltb (hex_value b) 16) (Some (hex_value b)) None

pub digit_told : (b v : ℕ) → hex_value b ≡ v → v < 16 → Some v ≡ told b
digit_told b v e h = rw (lt-ltb (hex_value b) 16 (omega arith)) (ap Some (sym e))

pub none_told : (b : ℕ) → 16 ≤ hex_value b → None ≡ told b
none_told b h = rw (le-ltb (hex_value b) 16 h)

pub some_told : (b : ℕ) → is_some (told b) ≡ ltb (hex_value b) 16
some_told b = by (ltb (hex_value b) 16)
  where
    by : (t : Bool) → is_some (cond t (Some (hex_value b)) None) ≡ t
    by true = refl
    by false = refl

-- no byte has a value above 16
index_most : (b : ℕ) (l : List ℕ) → index_in b l ≤ length l
index_most b [] = omega arith
index_most b (d ∷ l) = by (eqb b d) (index_most b l)
  where
    by : (t : Bool) → index_in b l ≤ length l → cond t 0 (suc (index_in b l)) ≤ suc (length l)
    by true h = omega arith
    by false h = omega arith

value_most : (b : ℕ) → hex_value b ≤ 16
unfolding hex_value
value_most b = by (ltb (index_in b lower_digits) 16) refl
  where
    by : (t : Bool) → ltb (index_in b lower_digits) 16 ≡ t → cond t (index_in b lower_digits) (index_in b upper_digits) ≤ 16
    by true e = omega (arith, ltb-true (index_in b lower_digits) 16 e)
    by false e = index_most b upper_digits

pub told_or : (b : ℕ) → unwrap_or (told b) 16 ≡ hex_value b
told_or b = by (ltb (hex_value b) 16) refl
  where
    by : (t : Bool) → ltb (hex_value b) 16 ≡ t → unwrap_or (cond t (Some (hex_value b)) None) 16 ≡ hex_value b
    by true e = refl
    by false e = omega (arith, ltb-false (hex_value b) 16 e, value_most b)
