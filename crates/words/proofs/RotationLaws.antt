-- A rotation by shifts: the high bits moved down and the low bits moved up share no bit, so their union is their sum; two opposite rotations undo each other. Over any width and distance.
use mathlib.Core.Path.{◌≡◌, sym, ap, ap₂, ◌∙◌}
use Prim.Native.Nat.{ℕ, zero, suc, ◌+◌, ◌-◌, ◌*◌, ◌/◌, ◌%◌, ◌^◌, ◌<◌, ◌≤◌}
use native.Mathlib.Nat.{mul-mod_left, add-zero, add_comm, mod-lt, mod_self, mod-one, mod-eq_of_lt, div-eq_of_lt, div-one, mul-one, suc-mul, mul-le-mul_right}
use native.Mathlib.Omega.{arith}
use lib.Pow.{mod-pow-add, shl-shr, shr_lt, high, low, split, pow_pos, pow-add}
use lib.Bits.{bit_or, or_shifted_r, or_self}
use Rattle.std.proofs.lemmas.Nat.{or_comm}
use Rattle.words.specs.Rotation.{rotate_right, rotate_left}

-- x, a word of m + n bits, with its m low bits on top
abbrev turned : ℕ → ℕ → ℕ → ℕ
turned m n x = x % 2 ^ m * 2 ^ n + x / 2 ^ m

halves : {w : ℕ} (m n x : ℕ) → m + n ≡ w → x < 2 ^ w → bit_or (x / 2 ^ m) (x * 2 ^ n % 2 ^ w) ≡ turned m n x
halves m n x e h =
    rw (← e)
    (ap (bit_or (x / 2 ^ m))
    (mod-pow-add (x * 2 ^ n) m n ∙ ap₂ (λ (a b : ℕ). a % 2 ^ m * 2 ^ n + b) (shl-shr x n) (mul-mod_left x (2 ^ n)) ∙ add-zero (x % 2 ^ m * 2 ^ n))
    ∙ or_shifted_r (x % 2 ^ m) n (x / 2 ^ m) (shr_lt n m (rw (← e, add_comm m n) at h)))

-- by no place
still : (w x : ℕ) → x < 2 ^ w → bit_or (x / 2 ^ 0) (x * 2 ^ 0 % 2 ^ w) ≡ x
still w x h = rw (div-one x, mul-one x, mod-eq_of_lt h) (or_self x)

pub right_shifts : (w k x : ℕ) → k < w → x < 2 ^ w → bit_or (x / 2 ^ k) (x * 2 ^ ((w - k) % w) % 2 ^ w) ≡ rotate_right w k x
unfolding rotate_right
right_shifts w zero x h hx =
    let z : w - 0 ≡ w = omega arith in
    let d : (w - 0) % w ≡ 0 = ap (λ (k : ℕ). k % w) z ∙ mod_self w in
    let l : x % 2 ^ 0 ≡ 0 = mod-one x in
    let q : x / 2 ^ 0 ≡ x = div-one x in
    rw d (still w x hx ∙ sym (rw (l, q) (omega arith)))
right_shifts w (suc k) x h hx =
    let d : (w - suc k) % w ≡ w - suc k = mod-eq_of_lt (omega arith) in
    rw d (halves (suc k) (w - suc k) x (omega arith) hx)

left_turned : (w k x : ℕ) → k < w → x < 2 ^ w → bit_or (x / 2 ^ ((w - k) % w)) (x * 2 ^ k % 2 ^ w) ≡ rotate_left w k x
unfolding rotate_left
left_turned w zero x h hx =
    let z : w - 0 ≡ w = omega arith in
    let d : (w - 0) % w ≡ 0 = ap (λ (k : ℕ). k % w) z ∙ mod_self w in
    let l : x % 2 ^ (w - 0) ≡ x = ap (λ (k : ℕ). x % 2 ^ k) z ∙ mod-eq_of_lt hx in
    let q : x / 2 ^ (w - 0) ≡ 0 = ap (λ (k : ℕ). x / 2 ^ k) z ∙ div-eq_of_lt hx in
    rw d (still w x hx ∙ sym (rw (l, q) (omega arith)))
left_turned w (suc k) x h hx =
    let d : (w - suc k) % w ≡ w - suc k = mod-eq_of_lt (omega arith) in
    rw d (halves (w - suc k) (suc k) x (omega arith) hx)

pub left_shifts : (w k x : ℕ) → k < w → x < 2 ^ w → bit_or (x * 2 ^ k % 2 ^ w) (x / 2 ^ ((w - k) % w)) ≡ rotate_left w k x
left_shifts w k x h hx = or_comm (x * 2 ^ k % 2 ^ w) (x / 2 ^ ((w - k) % w)) ∙ left_turned w k x h hx

back : (m n x : ℕ) → x < 2 ^ (n + m) → turned n m (turned m n x) ≡ x
back m n x h =
    let hi : x / 2 ^ m < 2 ^ n = shr_lt n m h in
    ap₂ (λ (a b : ℕ). a * 2 ^ m + b) (low (x % 2 ^ m) n hi) (high (x % 2 ^ m) n hi) ∙ split x m

pub right_left : (w k x : ℕ) → k ≤ w → x < 2 ^ w → rotate_right w k (rotate_left w k x) ≡ x
unfolding rotate_right rotate_left
right_left w k x h hx = let e : k + (w - k) ≡ w = omega arith in back (w - k) k x (rw e hx)

pub left_right : (w k x : ℕ) → k ≤ w → x < 2 ^ w → rotate_left w k (rotate_right w k x) ≡ x
unfolding rotate_right rotate_left
left_right w k x h hx = let e : w - k + k ≡ w = omega arith in back k (w - k) x (rw e hx)

two_digits : {b : ℕ} (a p q : ℕ) → a < p → b < q → a * q + b < p * q
two_digits {b} a p q ha hb =
    let s : suc a * q ≤ p * q = mul-le-mul_right q ha in
    let t : suc a * q ≡ a * q + q = suc-mul a q in
    omega arith

turned_fits : (m n x : ℕ) → x < 2 ^ (n + m) → turned m n x < 2 ^ (m + n)
turned_fits m n x h =
    rw (pow-add 2 m n) (two_digits (x % 2 ^ m) (2 ^ m) (2 ^ n) (mod-lt x (pow_pos m)) (shr_lt n m h))

pub right_fits : (w k x : ℕ) → k ≤ w → x < 2 ^ w → rotate_right w k x < 2 ^ w
unfolding rotate_right
right_fits w k x h hx =
    let e : k + (w - k) ≡ w = omega arith in
    let f : w - k + k ≡ w = omega arith in
    rw e at (turned_fits k (w - k) x (rw f hx))

pub left_fits : (w k x : ℕ) → k ≤ w → x < 2 ^ w → rotate_left w k x < 2 ^ w
unfolding rotate_left
left_fits w k x h hx =
    let e : k + (w - k) ≡ w = omega arith in
    let f : w - k + k ≡ w = omega arith in
    rw f at (turned_fits (w - k) k x (rw e hx))
