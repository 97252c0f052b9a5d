-- Days in words: of an expiry ahead the whole days to it, of one behind a day for each that has begun. By arithmetic: 2^32 days more keep every difference above 0.
use Prim.Native.Nat.{ℕ, suc, ◌+◌, ◌-◌, ◌*◌, ◌/◌, ◌%◌, ◌^◌, ◌<◌, ◌≤◌}
use mathlib.Core.Bool.{Bool, true, false, cond}
use mathlib.Core.Path.{◌≡◌, refl, ◌∙◌}
use native.Mathlib.Nat.{mod-eq_of_lt, mod-lt}
use native.Mathlib.Omega.{arith}
use lib.Dec.{eqb, ltb}
use borrow.Author.Tests.{ltb-true, ltb-false}
use Rattle.std.proofs.Common.{ℤ, pos, negsuc, ◌-ℤ◌}
use Rattle.std.proofs.lemmas.Int.{ints, to_z-of_z}
use Rattle.std.specs.Int.{w32, w64, int_div_euclid}
use mir.Val.{SFits, of_z, to_z}
use Rattle.fields.specs.declared.value.Value.{Value}
use Rattle.rows.specs.Days.{days_between, Rounded, days_of}

pub days_ahead : (e t : ℕ) → t ≤ e → e < 2 ^ 32 → (e - t) / 86400 ≡ days_between e t
unfolding days_between
days_ahead e t h l = omega arith

pub days_behind : (e t : ℕ) → e < t → t < 2 ^ 32 → 4294967295 - (t - e - 1) / 86400 ≡ days_between e t
unfolding days_between
days_behind e t h l =
    let z : 4294967295 - (t - e - 1) / 86400 ≡ (e + 86400 * 2 ^ 32 - t) / 86400 = omega arith in
    z ∙ rw (mod-eq_of_lt {n = (e + 86400 * 2 ^ 32 - t) / 86400} {m = 2 ^ 32} (omega arith))

-- the quotient of the difference, in 32 bits
record Quotient (e t : ℕ) (z : ℤ) : Type 0 where
  fits : SFits w32 z
  bits : of_z w32 z ≡ days_between e t

quotient : (e t : ℕ) → e < 2 ^ 32 → t < 2 ^ 32 → Quotient e t (int_div_euclid (pos e -ℤ pos t) (pos 86400))
quotient e t k l = by (ltb e t) refl
  where
    by : (b : Bool) → ltb e t ≡ b → Quotient e t (int_div_euclid (pos e -ℤ pos t) (pos 86400))
    by true h =
        let i : e < t = ltb-true e t h in
        let z : pos e -ℤ pos t ≡ negsuc (t - e - 1) = omega (arith, ints) in
        let q : 2 ^ 32 - suc ((t - e - 1) / 86400) ≡ 4294967295 - (t - e - 1) / 86400 = omega arith in
        rw z (record { fits = record { sfits = omega arith }; bits = q ∙ days_behind e t i l })
    by false h =
        let i : t ≤ e = ltb-false e t h in
        let z : pos e -ℤ pos t ≡ pos (e - t) = omega (arith, ints) in
        rw z (record { fits = record { sfits = omega arith }; bits = days_ahead e t i k })

-- as the code comes to it: a and b are the expiry and the given now as 64-bit numbers
pub rounded_down : (e t : ℕ) → e < 2 ^ 32 → t < 2 ^ 32 → (a b q : ℤ) (r : ℕ) → a ≡ pos e → b ≡ pos t → SFits w64 q
    → q ≡ int_div_euclid (to_z w64 (of_z w64 (to_z w64 (of_z w64 a) -ℤ to_z w64 (of_z w64 b)))) (pos 86400)
    → r ≡ of_z w32 (to_z w32 (of_z w32 (to_z w64 (of_z w64 q)))) → r ≡ days_between e t
rounded_down e t k l a b q r i j f g h =
    let d : to_z w64 (of_z w64 (to_z w64 (of_z w64 a) -ℤ to_z w64 (of_z w64 b))) ≡ pos e -ℤ pos t = omega (arith, ints) in
    let x : q ≡ int_div_euclid (pos e -ℤ pos t) (pos 86400) = g ∙ rw d in
    let y = quotient e t k l in
    let s : SFits w32 q = rw x y.fits in
    h ∙ rw (to_z-of_z w64 q f, to_z-of_z w32 q s, x) y.bits

-- Q6.a "divided by 86,400 and rounded towards minus infinity"
pub rounds : (e t : ℕ) → e < 2 ^ 32 → t < 2 ^ 32 → Rounded e t (days_between e t)
rounds e t k l =
    record {
      ahead = λ h. rw (← days_ahead e t h k) (omega arith, omega arith);
      behind = λ h. rw (← days_behind e t h l) ((t - e - 1) / 86400 + 1, omega arith, omega arith, omega arith, omega arith);
    }

pub days_fit : (v : Value) (t : ℕ) → days_of v t < 2 ^ 32
unfolding days_of days_between
days_fit (Value.Time s) t = by (eqb s 0)
  where
    by : (b : Bool) → cond b 2147483647 ((s + 86400 * 2 ^ 32 - t) / 86400 % 2 ^ 32) < 2 ^ 32
    by true = omega arith
    by false = mod-lt ((s + 86400 * 2 ^ 32 - t) / 86400) (omega arith)
days_fit _ t = omega arith
