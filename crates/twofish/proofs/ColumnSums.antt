-- The product of the MDS matrix and four bytes is the sum of its columns, each times a byte: the sums of four bytes go byte by byte,
-- and the multiples by 1, 5B and EF are computed at all 256 bytes. So one column alone is the product with zeros elsewhere.
use mathlib.Core.Path.{◌≡◌, refl, sym, ap, ap₂, ◌∙◌}
use mathlib.Core.List.{[], ◌∷◌}
use Prim.Native.Nat.{ℕ, ◌+◌, ◌*◌, ◌<◌}
use native.Mathlib.Omega.{arith}
use lib.Bits.{xor_block, xor_lt, xor_zero_l, xor_zero_r}
use lib.Dec.{ltb, ltb→lt, lit<}
use Rattle.words.specs.Numbers.{number_low}
use Rattle.words.proofs.NumberLaws.{low_word}
use Rattle.twofish.specs.Field.{◌⊕◌, gf, times, twice}
use Rattle.twofish.specs.Key.{mds}
use Rattle.twofish.specs.Columns.{half, col0, col1, col2, col3}
use Rattle.words.proofs.Every.{every, agree}

pub is_5b : (x : ℕ) → x < 256 → x ⊕ half (half x) ≡ gf 0x169 0x5B x
unfolding half gf times twice
is_5b = agree (λ x. x ⊕ half (half x)) (gf 0x169 0x5B) 256 tt

pub is_ef : (x : ℕ) → x < 256 → x ⊕ half x ⊕ half (half x) ≡ gf 0x169 0xEF x
unfolding half gf times twice
is_ef = agree (λ x. x ⊕ half x ⊕ half (half x)) (gf 0x169 0xEF) 256 tt

is_1 : (x : ℕ) → x < 256 → gf 0x169 1 x ≡ x
unfolding gf times twice
is_1 = agree (gf 0x169 1) (λ x. x) 256 tt

fits_5b : (x : ℕ) → x < 256 → gf 0x169 0x5B x < 256
unfolding gf times twice
fits_5b x h = ltb→lt _ _ (every (λ k. ltb (gf 0x169 0x5B k) 256) 256 tt x h)

fits_ef : (x : ℕ) → x < 256 → gf 0x169 0xEF x < 256
unfolding gf times twice
fits_ef x h = ltb→lt _ _ (every (λ k. ltb (gf 0x169 0xEF k) 256) 256 tt x h)

-- the lowest byte apart
low : (a b u v : ℕ) → a < 256 → b < 256 → (a + 256 * u) ⊕ (b + 256 * v) ≡ (a ⊕ b) + 256 * (u ⊕ v)
low a b u v ha hb =
    let p : a + 256 * u ≡ u * 256 + a = omega arith in
    let q : b + 256 * v ≡ v * 256 + b = omega arith in
    let r : (u ⊕ v) * 256 + (a ⊕ b) ≡ (a ⊕ b) + 256 * (u ⊕ v) = omega arith in
    ap₂ ◌⊕◌ p q ∙ xor_block 8 u v a b ha hb ∙ r

-- the word of four bytes
abbrev word : ℕ → ℕ → ℕ → ℕ → ℕ
word a b c d = number_low (a ∷ b ∷ c ∷ d ∷ [])

word_sum : (a b c d e f g h : ℕ) → a < 256 → b < 256 → c < 256 → e < 256 → f < 256 → g < 256
    → word a b c d ⊕ word e f g h ≡ word (a ⊕ e) (b ⊕ f) (c ⊕ g) (d ⊕ h)
word_sum a b c d e f g h ha hb hc he hf hg =
    ap₂ ◌⊕◌ (sym (low_word a b c d)) (sym (low_word e f g h))
    ∙ low a e (b + 256 * (c + 256 * d)) (f + 256 * (g + 256 * h)) ha he
    ∙ ap (λ (x : ℕ). (a ⊕ e) + 256 * x)
    (low b f (c + 256 * d) (g + 256 * h) hb hf ∙ ap (λ (x : ℕ). (b ⊕ f) + 256 * x) (low c g d h hc hg))
    ∙ low_word (a ⊕ e) (b ⊕ f) (c ⊕ g) (d ⊕ h)

pub columns : (w x y z : ℕ) → w < 256 → x < 256 → y < 256 → z < 256 → col0 w ⊕ col1 x ⊕ col2 y ⊕ col3 z ≡ mds w x y z
unfolding col0 col1 col2 col3 mds
columns w x y z hw hx hy hz =
    let m = gf 0x169 0x5B in
    let n = gf 0x169 0xEF in
    let w1 = fits_5b w hw in
    let w2 = fits_ef w hw in
    let x1 = fits_5b x hx in
    let x2 = fits_ef x hx in
    let y1 = fits_5b y hy in
    let y2 = fits_ef y hy in
    let z1 = fits_5b z hz in
    let z2 = fits_ef z hz in
    ap (λ (v : ℕ). v ⊕ word (m y) (n y) y (n y) ⊕ word (m z) z (n z) (m z))
    (word_sum w (m w) (n w) (n w) (n x) (n x) (m x) x hw w1 w2 x2 x2 x1)
    ∙ ap (λ (v : ℕ). v ⊕ word (m z) z (n z) (m z))
    (word_sum (w ⊕ n x) (m w ⊕ n x) (n w ⊕ m x) (n w ⊕ x) (m y) (n y) y (n y)
    (xor_lt 8 w (n x) hw x2) (xor_lt 8 (m w) (n x) w1 x2) (xor_lt 8 (n w) (m x) w2 x1) y1 y2 hy)
    ∙ word_sum (w ⊕ n x ⊕ m y) (m w ⊕ n x ⊕ n y) (n w ⊕ m x ⊕ y) (n w ⊕ x ⊕ n y) (m z) z (n z) (m z)
    (xor_lt 8 (w ⊕ n x) (m y) (xor_lt 8 w (n x) hw x2) y1) (xor_lt 8 (m w ⊕ n x) (n y) (xor_lt 8 (m w) (n x) w1 x2) y2)
    (xor_lt 8 (n w ⊕ m x) y (xor_lt 8 (n w) (m x) w2 x1) hy) z1 hz z2
    ∙ sym (rw (is_1 w hw, is_1 x hx, is_1 y hy, is_1 z hz) refl)

-- one column alone: the others, times 0, are 0
pub only0 : (y : ℕ) → y < 256 → col0 y ≡ mds y 0 0 0
unfolding col1 col2 col3 gf times twice number_low
only0 y h = sym (xor_zero_r _ ∙ xor_zero_r _ ∙ xor_zero_r _) ∙ columns y 0 0 0 h (lit< tt) (lit< tt) (lit< tt)

pub only1 : (y : ℕ) → y < 256 → col1 y ≡ mds 0 y 0 0
unfolding col0 col2 col3 gf times twice number_low
only1 y h = sym (xor_zero_r _ ∙ xor_zero_r _ ∙ xor_zero_l _) ∙ columns 0 y 0 0 (lit< tt) h (lit< tt) (lit< tt)

pub only2 : (y : ℕ) → y < 256 → col2 y ≡ mds 0 0 y 0
unfolding col0 col1 col3 gf times twice number_low
only2 y h = sym (xor_zero_r _ ∙ xor_zero_l _) ∙ columns 0 0 y 0 (lit< tt) (lit< tt) h (lit< tt)

pub only3 : (y : ℕ) → y < 256 → col3 y ≡ mds 0 0 0 y
unfolding col0 col1 col2 gf times twice number_low
only3 y h = sym (xor_zero_l _) ∙ columns 0 0 0 y (lit< tt) (lit< tt) (lit< tt) h
