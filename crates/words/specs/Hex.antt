-- Hex digits: 0 to 9, and a to f in either case; and numbers in such digits.
use Rattle.std.specs.Prelude.{◌≡◌, Bool, cond, List, [], ◌∷◌, map, ℕ, zero, suc, ◌+◌, ◌*◌, ◌/◌, ◌%◌, ◌^◌, ◌<◌, ltb, eqb, length, get_or}
use Rattle.words.specs.Each.{Each, all_in}

-- 0 to 9, and what stands for the values 10 to 15
abbrev digits_with : List ℕ → List ℕ
digits_with l = 0x30 ∷ 0x31 ∷ 0x32 ∷ 0x33 ∷ 0x34 ∷ 0x35 ∷ 0x36 ∷ 0x37 ∷ 0x38 ∷ 0x39 ∷ l

abbrev pub lower_digits : List ℕ
lower_digits = digits_with (0x61 ∷ 0x62 ∷ 0x63 ∷ 0x64 ∷ 0x65 ∷ 0x66 ∷ [])

abbrev pub upper_digits : List ℕ
upper_digits = digits_with (0x41 ∷ 0x42 ∷ 0x43 ∷ 0x44 ∷ 0x45 ∷ 0x46 ∷ [])

-- the first index of b in a list, and the length of a list without it
abbrev pub index_in : ℕ → List ℕ → ℕ
index_in b [] = 0
index_in b (d ∷ ds) = cond (eqb b d) 0 (suc (index_in b ds))

-- the value of a digit of either case: its index among the digits; 16 of a byte that is no digit
unfoldable pub hex_value : ℕ → ℕ
hex_value b = cond (ltb (index_in b lower_digits) 16) (index_in b lower_digits) (index_in b upper_digits)

-- the digit of a value, in lower case; a greater number counts modulo 16
unfoldable pub hex_digit : ℕ → ℕ
hex_digit v = get_or lower_digits (v % 16) 0

-- every byte is a digit: as a statement, and as a test
abbrev pub Digits : List ℕ → Type 0
Digits s = Each (λ b. hex_value b < 16) s

unfoldable pub all_digits : List ℕ → Bool
all_digits s = all_in (λ b. ltb (hex_value b) 16) s

-- what digits come to, the highest first: each counts 16 to the power of the number of digits behind it. A byte that is no digit counts as 16
unfoldable pub hex_number : List ℕ → ℕ
hex_number [] = 0
hex_number (d ∷ s) = hex_value d * 16 ^ length s + hex_number s

-- the values of the n lowest digits of x, the highest first
unfoldable pub digit_values : ℕ → ℕ → List ℕ
digit_values zero x = []
digit_values (suc n) x = x / 16 ^ n % 16 ∷ digit_values n x

-- s is x in digits of either case, the highest first
pub record Spells (s : List ℕ) (x : ℕ) : Type 0 where
  pub fits : x < 16 ^ length s
  pub values : map hex_value s ≡ digit_values (length s) x
