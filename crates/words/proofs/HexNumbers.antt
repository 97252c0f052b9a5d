-- A list of hex digits comes to a number exactly where it spells it, every number is spelled, and it can be summed up digit by digit: by recursion on the list, and
-- on the number of digits.
use mathlib.Core.Path.{◌≡◌, refl, sym, ap, ap₂, ◌∙◌}
use mathlib.Core.Logic.{◌↔◌}
use mathlib.Core.Bool.{true}
use mathlib.Core.List.{List, [], ◌∷◌, ◌++◌, map}
use Prim.Native.Nat.{ℕ, zero, suc, ◌+◌, ◌-◌, ◌*◌, ◌/◌, ◌%◌, ◌^◌, ◌<◌, ◌≤◌}
use native.Mathlib.Omega.{arith}
use native.Mathlib.Nat.{mul_assoc, mul_left_comm, add_comm, mod-eq_of_lt, pow-succ', one-le-pow, add-mul-div_right, mul-add-mod_self_right}
use lib.Arith.{digits_lt, digits_div, mod-mul}
use lib.Dec.{ltb}
use lib.ListN.{length, length-append}
use lib.Pow.{pow-add}
use borrow.Author.Tests.{ltb-true, lt-ltb}
use Rattle.words.specs.Hex.{hex_value, hex_digit, Digits, all_digits, hex_number, digit_values, Spells}
use Rattle.words.proofs.EachLaws.{both, and, each}
use Rattle.words.proofs.HexLaws.{read_back}

-- ---- one digit more
longer : (s : List ℕ) (d : ℕ) → 16 ^ length (s ++ (d ∷ [])) ≡ 16 * 16 ^ length s
longer s d =
    let l : length (s ++ (d ∷ [])) ≡ suc (length s) = rw length-append (omega arith) in
    ap (λ (n : ℕ). 16 ^ n) l ∙ pow-succ' 16 (length s)

one_more : (s : List ℕ) (d : ℕ) → hex_number (s ++ (d ∷ [])) ≡ 16 * hex_number s + hex_value d
unfolding hex_number
one_more [] d = omega arith
one_more (x ∷ s) d =
    let ih : hex_number (s ++ (d ∷ [])) ≡ 16 * hex_number s + hex_value d = one_more s d in
    let e : hex_value x * 16 ^ length (s ++ (d ∷ [])) ≡ 16 * (hex_value x * 16 ^ length s) = ap (λ (p : ℕ). hex_value x * p) (longer s d) ∙ mul_left_comm (hex_value x) 16 (16 ^ length s) in
    omega (arith, ih, e)

-- modulo 2^32
pub number_next : (s : List ℕ) (n b r : ℕ) → n ≡ hex_number s % 2 ^ 32 → r ≡ (16 * n + hex_value b) % 2 ^ 32 → r ≡ hex_number (s ++ (b ∷ [])) % 2 ^ 32
number_next s n b r e g = omega (arith, one_more s b, e, g)

-- ---- what is spelled
pos : (n : ℕ) → 0 < 16 ^ n
pos n = one-le-pow n 16 (omega arith)

pub digits_fit : (s : List ℕ) → all_digits s ≡ true → hex_number s < 16 ^ length s
unfolding all_digits hex_number
digits_fit [] h = omega arith
digits_fit (d ∷ s) h =
    let x = both (ltb (hex_value d) 16) (all_digits s) h in
    rw (pow-succ' 16 (length s)) (digits_lt {q = hex_value d} {m = 16} (ltb-true (hex_value d) 16 x.0) (digits_fit s x.1))

-- the n lowest digits do not go by what is higher
low_digits : (n m v y : ℕ) → n ≤ m → digit_values n (v * 16 ^ m + y) ≡ digit_values n y
unfolding digit_values
low_digits zero m v y h = refl
low_digits (suc n) m v y h = ap₂ ◌∷◌ digit (low_digits n m v y (omega arith))
  where
    up : ℕ
    up = v * 16 ^ (m - suc n)

    split : v * 16 ^ m ≡ up * 16 * 16 ^ n
    split =
        let e : m ≡ (m - suc n) + suc n = omega arith in
        ap (λ (k : ℕ). v * 16 ^ k) e ∙ ap (λ (p : ℕ). v * p) (pow-add 16 (m - suc n) (suc n)) ∙ sym (mul_assoc v (16 ^ (m - suc n)) (16 ^ suc n))
        ∙ ap (λ (p : ℕ). up * p) (pow-succ' 16 n) ∙ sym (mul_assoc up 16 (16 ^ n))

    digit : (v * 16 ^ m + y) / 16 ^ n % 16 ≡ y / 16 ^ n % 16
    digit =
        ap (λ (p : ℕ). (p + y) / 16 ^ n % 16) split ∙ ap (λ (p : ℕ). p / 16 ^ n % 16) (add_comm (up * 16 * 16 ^ n) y)
        ∙ ap (λ (q : ℕ). q % 16) (add-mul-div_right y (up * 16) (pos n) ∙ add_comm (y / 16 ^ n) (up * 16)) ∙ mul-add-mod_self_right up 16 (y / 16 ^ n)

spelled : (s : List ℕ) → all_digits s ≡ true → map hex_value s ≡ digit_values (length s) (hex_number s)
unfolding all_digits hex_number digit_values
spelled [] h = refl
spelled (d ∷ s) h =
    let x = both (ltb (hex_value d) 16) (all_digits s) h in
    let v : hex_value d < 16 = ltb-true (hex_value d) 16 x.0 in
    let e : hex_number (d ∷ s) / 16 ^ length s % 16 ≡ hex_value d = ap (λ (q : ℕ). q % 16) (digits_div (hex_value d) (digits_fit s x.1)) ∙ mod-eq_of_lt v in
    ap₂ ◌∷◌ (sym e) (spelled s x.1 ∙ sym (low_digits (length s) (length s) (hex_value d) (hex_number s) (omega arith)))

-- a list whose digits are those of x comes to x, as far as it goes
come_to : (s : List ℕ) (x : ℕ) → map hex_value s ≡ digit_values (length s) x → (all_digits s ≡ true) × (hex_number s ≡ x % 16 ^ length s)
unfolding all_digits hex_number digit_values
come_to [] x h = (refl, omega arith)
come_to (d ∷ s) x h =
    let v : hex_value d ≡ x / 16 ^ length s % 16 = cc in
    let t : map hex_value s ≡ digit_values (length s) x = cc in
    let r = come_to s x t in
    let l : hex_value d < 16 = omega (arith, v) in (
      and (ltb (hex_value d) 16) (all_digits s) (lt-ltb (hex_value d) 16 l) r.0,
      ap₂ (λ (a b : ℕ). a * 16 ^ length s + b) v r.1 ∙ sym (rw (pow-succ' 16 (length s)) (mod-mul x {m = 16} (omega arith) (pos (length s)))),
    )

pub digits_exactly : (s : List ℕ) → (all_digits s ≡ true) ↔ Digits s
unfolding all_digits
digits_exactly = each (λ b. ltb (hex_value b) 16) (λ b. hex_value b < 16) (λ b. (ltb-true (hex_value b) 16, lt-ltb (hex_value b) 16))

pub spells_exactly : (s : List ℕ) (x : ℕ) → ((all_digits s ≡ true) × (hex_number s ≡ x)) ↔ Spells s x
spells_exactly s x = (forth, back)
  where
    forth : (all_digits s ≡ true) × (hex_number s ≡ x) → Spells s x
    forth h = record {
      fits = rw (← h.1) (digits_fit s h.0);
      values = rw (← h.1) (spelled s h.0);
    }

    back : Spells s x → (all_digits s ≡ true) × (hex_number s ≡ x)
    back p = let r = come_to s x p.values in (r.0, r.1 ∙ mod-eq_of_lt p.fits)

-- ---- every number is spelled
pub digits_long : (n x : ℕ) → length (map hex_digit (digit_values n x)) ≡ n
unfolding digit_values
digits_long zero x = refl
digits_long (suc n) x = ap suc (digits_long n x)

digits_back : (n x : ℕ) → map hex_value (map hex_digit (digit_values n x)) ≡ digit_values n x
unfolding digit_values
digits_back zero x = refl
digits_back (suc n) x = ap₂ ◌∷◌ (read_back (x / 16 ^ n % 16) (omega arith)) (digits_back n x)

-- in lower case
pub spelled_in : (n x : ℕ) → x < 16 ^ n → Spells (map hex_digit (digit_values n x)) x
spelled_in n x h = record {
  fits = rw (digits_long n x) h;
  values = rw (digits_long n x) (digits_back n x);
}
