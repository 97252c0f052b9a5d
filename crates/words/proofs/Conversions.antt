-- What std's conversions between numbers and bytes come to, in the words of `Numbers.antt`: each is the same sum, or the same bytes one by one.
use mathlib.Core.Path.{◌≡◌, sym, ap, ◌∙◌}
use mathlib.Core.List.{[], ◌∷◌}
use Prim.Native.Nat.{ℕ, ◌%◌}
use native.Mathlib.Omega.{arith}
use native.Mathlib.Nat.{div-one}
use mir.Syntax.{w32, w64}
use Rattle.std.specs.Int.{from_le_bytes, from_be_bytes, to_le_bytes, to_be_bytes}
use Rattle.words.specs.Numbers.{number_low, bytes_low, number_high, bytes_high, byte_of}
use Rattle.words.proofs.NumberLaws.{four_low, four_high, eight_low, eight_high}

pub from_le_word : (a b c d : ℕ) → from_le_bytes w32 (a ∷ b ∷ c ∷ d ∷ []) ≡ number_low (a ∷ b ∷ c ∷ d ∷ [])
unfolding number_low
from_le_word a b c d = omega arith

pub from_be_word : (a b c d : ℕ) → from_be_bytes w32 (a ∷ b ∷ c ∷ d ∷ []) ≡ number_high (a ∷ b ∷ c ∷ d ∷ [])
unfolding number_low number_high
from_be_word a b c d = omega arith

pub to_le_word : (x : ℕ) → to_le_bytes w32 x ≡ bytes_low 4 x
to_le_word x = ap (λ (y : ℕ). y % 256 ∷ byte_of 1 x ∷ byte_of 2 x ∷ byte_of 3 x ∷ []) (sym (div-one x)) ∙ sym (four_low x)

pub to_be_word : (x : ℕ) → to_be_bytes w32 x ≡ bytes_high 4 x
to_be_word x = ap (λ (y : ℕ). byte_of 3 x ∷ byte_of 2 x ∷ byte_of 1 x ∷ y % 256 ∷ []) (sym (div-one x)) ∙ sym (four_high x)

pub to_le_wide : (x : ℕ) → to_le_bytes w64 x ≡ bytes_low 8 x
to_le_wide x =
    ap (λ (y : ℕ). y % 256 ∷ byte_of 1 x ∷ byte_of 2 x ∷ byte_of 3 x ∷ byte_of 4 x ∷ byte_of 5 x ∷ byte_of 6 x ∷ byte_of 7 x ∷ []) (sym (div-one x))
    ∙ sym (eight_low x)

pub to_be_wide : (x : ℕ) → to_be_bytes w64 x ≡ bytes_high 8 x
to_be_wide x =
    ap (λ (y : ℕ). byte_of 7 x ∷ byte_of 6 x ∷ byte_of 5 x ∷ byte_of 4 x ∷ byte_of 3 x ∷ byte_of 2 x ∷ byte_of 1 x ∷ y % 256 ∷ []) (sym (div-one x))
    ∙ sym (eight_high x)
