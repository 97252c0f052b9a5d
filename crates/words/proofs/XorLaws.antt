-- The exclusive or is associative and undoes itself, on numbers and on lists: digit by digit, and place by place.
use mathlib.Core.Path.{◌≡◌, refl, sym, ap, ap₂, ◌∙◌}
use mathlib.Core.List.{List, [], ◌∷◌, ◌++◌}
use Prim.Native.Nat.{ℕ, zero, suc, ◌/◌, ◌%◌, ◌<◌, ◌≤◌}
use native.Mathlib.Omega.{arith}
use lib.Arith.{bin_ind}
use lib.Bits.{bit_xor, xor_shr, xor_mod, xor_self, xor_zero_r, xor_lt}
use lib.ListN.{length}
use Rattle.words.specs.Numbers.{bytes_low, Bytes, none, more, Sized}
use Rattle.words.specs.Xor.{xored}

-- of three digits
digits : (x y z : ℕ) → x < 2 → y < 2 → z < 2 → bit_xor (bit_xor x y) z ≡ bit_xor x (bit_xor y z)
digits zero y z hx hy hz = refl
digits (suc zero) zero z hx hy hz = refl
digits (suc zero) (suc zero) zero hx hy hz = refl
digits (suc zero) (suc zero) (suc zero) hx hy hz = refl
digits (suc zero) (suc zero) (suc (suc z)) hx hy hz = absurd (omega arith)
digits (suc zero) (suc (suc y)) z hx hy hz = absurd (omega arith)
digits (suc (suc x)) y z hx hy hz = absurd (omega arith)

half : (a b : ℕ) → bit_xor a b / 2 ≡ bit_xor (a / 2) (b / 2)
half a b = xor_shr a b 1

odd : (a b : ℕ) → bit_xor a b % 2 ≡ bit_xor (a % 2) (b % 2)
odd a b = xor_mod a b 1

both : (x y : ℕ) → x / 2 ≡ y / 2 → x % 2 ≡ y % 2 → x ≡ y
both x y p q = omega arith

pub xor_assoc : (a b c : ℕ) → bit_xor (bit_xor a b) c ≡ bit_xor a (bit_xor b c)
xor_assoc =
    bin_ind (λ (n : ℕ). (b c : ℕ) → bit_xor (bit_xor n b) c ≡ bit_xor n (bit_xor b c)) (λ b c. refl)
    (λ n ih b c. both _ _
    (half (bit_xor n b) c ∙ ap (λ (x : ℕ). bit_xor x (c / 2)) (half n b) ∙ ih (b / 2) (c / 2)
    ∙ ap (bit_xor (n / 2)) (sym (half b c)) ∙ sym (half n (bit_xor b c)))
    (odd (bit_xor n b) c ∙ ap (λ (x : ℕ). bit_xor x (c % 2)) (odd n b)
    ∙ digits (n % 2) (b % 2) (c % 2) (omega arith) (omega arith) (omega arith)
    ∙ ap (bit_xor (n % 2)) (sym (odd b c)) ∙ sym (odd n (bit_xor b c))))

pub xor_undo : (a b : ℕ) → bit_xor (bit_xor a b) b ≡ a
xor_undo a b = xor_assoc a b b ∙ ap (bit_xor a) (xor_self b) ∙ xor_zero_r a

pub xored_undo : (s t : List ℕ) → length s ≤ length t → xored (xored s t) t ≡ s
unfolding xored
xored_undo [] t h = refl
xored_undo (a ∷ s) [] h = absurd (omega arith)
xored_undo (a ∷ s) (b ∷ t) h = ap₂ ◌∷◌ (xor_undo a b) (xored_undo s t (omega arith))

pub length_xored : (s t : List ℕ) → length s ≤ length t → length (xored s t) ≡ length s
unfolding xored
length_xored [] t h = refl
length_xored (a ∷ s) [] h = absurd (omega arith)
length_xored (a ∷ s) (b ∷ t) h = ap suc (length_xored s t (omega arith))

pub bytes_xored : {s t : List ℕ} → Bytes s → Bytes t → Bytes (xored s t)
unfolding xored
bytes_xored none y = none
bytes_xored (more p x) none = none
bytes_xored (more {b = a} p x) (more {b = b} q y) = more (xor_lt 8 a b p q) (bytes_xored x y)

pub sized_xored : (n : ℕ) (s t : List ℕ) → Sized n s → Sized n t → Sized n (xored s t)
sized_xored n s t x y =
    let l = length_xored s t (omega arith) in
    record { long = l ∙ x.long; bytes = bytes_xored x.bytes y.bytes }

pub xored_append : (s t u v : List ℕ) → length s ≡ length t → xored (s ++ u) (t ++ v) ≡ xored s t ++ xored u v
unfolding xored
xored_append [] [] u v h = refl
xored_append [] (b ∷ t) u v h = absurd (omega arith)
xored_append (a ∷ s) [] u v h = absurd (omega arith)
xored_append (a ∷ s) (b ∷ t) u v h = ap (λ (l : List ℕ). bit_xor a b ∷ l) (xored_append s t u v (omega arith))

-- the bytes of an exclusive or
pub bytes_xor : (n a b : ℕ) → bytes_low n (bit_xor a b) ≡ xored (bytes_low n a) (bytes_low n b)
unfolding bytes_low xored
bytes_xor zero a b = refl
bytes_xor (suc n) a b =
    ap₂ ◌∷◌ (xor_mod a b 8) (ap (bytes_low n) (xor_shr a b 8) ∙ bytes_xor n (a / 256) (b / 256))
