-- A number is its bytes and the bytes are the number, for every length and in both orders: by recursion on the length, and turning the list round.
use mathlib.Core.Path.{◌≡◌, refl, sym, ap, ap₂, ◌∙◌}
use mathlib.Core.List.{List, [], ◌∷◌, ◌++◌, reverse, reverse-reverse}
use Prim.Native.Nat.{ℕ, zero, suc, ◌+◌, ◌*◌, ◌/◌, ◌%◌, ◌^◌, ◌<◌}
use native.Mathlib.Omega.{arith}
use native.Mathlib.Nat.{mod-one, div-one, mul_assoc}
use lib.ListN.{length, get_or, length-reverse}
use lib.Pow.{mod-pow-add, shr-shr, pow-add}
use Rattle.words.specs.Numbers.{number_low, bytes_low, number_high, bytes_high, byte_of, Bytes, none, more, Sized}
use Rattle.words.proofs.ByteLaws.{bytes_reverse}

eight_more : (n : ℕ) → 8 * suc n ≡ 8 * n + 8
eight_more n = omega arith

pub number_bytes : (n x : ℕ) → number_low (bytes_low n x) ≡ x % 2 ^ (8 * n)
unfolding number_low bytes_low
number_bytes zero x = sym (mod-one x)
number_bytes (suc n) x =
    let ih : number_low (bytes_low n (x / 256)) ≡ x / 256 % 2 ^ (8 * n) = number_bytes n (x / 256) in
    let e : x % 2 ^ (8 * n + 8) ≡ (x / 2 ^ 8 % 2 ^ (8 * n)) * 2 ^ 8 + x % 2 ^ 8 = mod-pow-add x (8 * n) 8 in
    rw (eight_more n, e, ih) (omega arith)

pub bytes_number : {s : List ℕ} → Bytes s → bytes_low (length s) (number_low s) ≡ s
unfolding number_low bytes_low
bytes_number none = refl
bytes_number (more {b = b} {s = s} h t) =
    let p : (b + 256 * number_low s) % 256 ≡ b = omega arith in
    let q : (b + 256 * number_low s) / 256 ≡ number_low s = omega arith in
    ap₂ ◌∷◌ p (ap (bytes_low (length s)) q ∙ bytes_number t)

-- as many bytes of the same number are the same bytes
pub number_inj : {d u : List ℕ} → Bytes d → Bytes u → length d ≡ length u → number_low d ≡ number_low u → d ≡ u
number_inj x y l e = sym (bytes_number x) ∙ ap₂ bytes_low l e ∙ bytes_number y

pub number_fits : {s : List ℕ} → Bytes s → number_low s < 2 ^ (8 * length s)
unfolding number_low
number_fits none = omega arith
number_fits (more {b = b} {s = s} h t) =
    let ih : number_low s < 2 ^ (8 * length s) = number_fits t in
    let e : 2 ^ (8 * length s + 8) ≡ 2 ^ (8 * length s) * 2 ^ 8 = pow-add 2 (8 * length s) 8 in
    rw (eight_more (length s), e) (omega arith)

pub bytes_sized : (n x : ℕ) → Sized n (bytes_low n x)
unfolding bytes_low
bytes_sized zero x = record { long = refl; bytes = none }
bytes_sized (suc n) x =
    let r : Sized n (bytes_low n (x / 256)) = bytes_sized n (x / 256) in
    record { long = ap suc r.long; bytes = more {b = x % 256} (omega arith) r.bytes }

-- the numbers of two lists, one after the other
pub number_append : (s t : List ℕ) → number_low (s ++ t) ≡ number_low s + 2 ^ (8 * length s) * number_low t
unfolding number_low
number_append [] t = omega arith
number_append (b ∷ s) t =
    let ih : number_low (s ++ t) ≡ number_low s + 2 ^ (8 * length s) * number_low t = number_append s t in
    let e : 2 ^ (8 * length s + 8) ≡ 2 ^ (8 * length s) * 2 ^ 8 = pow-add 2 (8 * length s) 8 in
    let f : 2 ^ (8 * length s) * 2 ^ 8 * number_low t ≡ 256 * (2 ^ (8 * length s) * number_low t) = shuffle (2 ^ (8 * length s)) (number_low t) in
    rw (ih, eight_more (length s), e, f) (omega arith)
  where
    shuffle : (p n : ℕ) → p * 2 ^ 8 * n ≡ 256 * (p * n)
    shuffle p n = let h : p * 2 ^ 8 ≡ 256 * p = omega arith in rw (h, mul_assoc)

-- byte i of the n lowest
pub byte_is : (n i x : ℕ) → i < n → get_or (bytes_low n x) i 0 ≡ byte_of i x
unfolding bytes_low
byte_is zero i x h = absurd (omega arith)
byte_is (suc n) zero x h = ap (λ (y : ℕ). y % 256) (sym (div-one x))
byte_is (suc n) (suc i) x h =
    let e : 8 + 8 * i ≡ 8 * suc i = omega arith in
    byte_is n i (x / 256) (omega arith) ∙ ap (λ (y : ℕ). y % 256) (shr-shr x 8 (8 * i) ∙ ap (λ (k : ℕ). x / 2 ^ k) e)

-- the four bytes of a word
pub four_low : (x : ℕ) → bytes_low 4 x ≡ byte_of 0 x ∷ byte_of 1 x ∷ byte_of 2 x ∷ byte_of 3 x ∷ []
unfolding bytes_low
four_low x =
    ap₂ ◌∷◌ (byte_is 4 0 x (omega arith))
    (ap₂ ◌∷◌ (byte_is 4 1 x (omega arith)) (ap₂ ◌∷◌ (byte_is 4 2 x (omega arith)) (ap₂ ◌∷◌ (byte_is 4 3 x (omega arith)) refl)))

pub four_high : (x : ℕ) → bytes_high 4 x ≡ byte_of 3 x ∷ byte_of 2 x ∷ byte_of 1 x ∷ byte_of 0 x ∷ []
unfolding bytes_high
four_high x = ap reverse (four_low x)

-- the eight bytes of a double word
pub eight_low : (x : ℕ)
    → bytes_low 8 x ≡ byte_of 0 x ∷ byte_of 1 x ∷ byte_of 2 x ∷ byte_of 3 x ∷ byte_of 4 x ∷ byte_of 5 x ∷ byte_of 6 x ∷ byte_of 7 x ∷ []
unfolding bytes_low
eight_low x =
    ap₂ ◌∷◌ (byte_is 8 0 x (omega arith)) (ap₂ ◌∷◌ (byte_is 8 1 x (omega arith)) (ap₂ ◌∷◌ (byte_is 8 2 x (omega arith))
    (ap₂ ◌∷◌ (byte_is 8 3 x (omega arith)) (ap₂ ◌∷◌ (byte_is 8 4 x (omega arith)) (ap₂ ◌∷◌ (byte_is 8 5 x (omega arith))
    (ap₂ ◌∷◌ (byte_is 8 6 x (omega arith)) (ap₂ ◌∷◌ (byte_is 8 7 x (omega arith)) refl)))))))

pub eight_high : (x : ℕ)
    → bytes_high 8 x ≡ byte_of 7 x ∷ byte_of 6 x ∷ byte_of 5 x ∷ byte_of 4 x ∷ byte_of 3 x ∷ byte_of 2 x ∷ byte_of 1 x ∷ byte_of 0 x ∷ []
unfolding bytes_high
eight_high x = ap reverse (eight_low x)

-- only the n lowest bytes count
pub bytes_mod : (n x : ℕ) → bytes_low n (x % 2 ^ (8 * n)) ≡ bytes_low n x
bytes_mod n x =
    let r : Sized n (bytes_low n x) = bytes_sized n x in
    ap₂ bytes_low (sym r.long) (sym (number_bytes n x)) ∙ bytes_number r.bytes

pub bytes_mod_high : (n x : ℕ) → bytes_high n (x % 2 ^ (8 * n)) ≡ bytes_high n x
unfolding bytes_high
bytes_mod_high n x = ap reverse (bytes_mod n x)

-- the same laws, the highest first
pub number_bytes_high : (n x : ℕ) → number_high (bytes_high n x) ≡ x % 2 ^ (8 * n)
unfolding number_high bytes_high
number_bytes_high n x = ap number_low (reverse-reverse (bytes_low n x)) ∙ number_bytes n x

pub bytes_high_sized : (n x : ℕ) → Sized n (bytes_high n x)
unfolding bytes_high
bytes_high_sized n x =
    let r : Sized n (bytes_low n x) = bytes_sized n x in
    record { long = length-reverse (bytes_low n x) ∙ r.long; bytes = bytes_reverse r.bytes }

-- the word of four bytes, as a sum
pub low_word : (a b c d : ℕ) → a + 256 * (b + 256 * (c + 256 * d)) ≡ number_low (a ∷ b ∷ c ∷ d ∷ [])
unfolding number_low
low_word a b c d = omega arith
