-- Parts and joins of lists of bytes hold bytes, and their sizes add up: by recursion on the list.
use mathlib.Core.Path.{◌≡◌, refl, sym, ap, ◌∙◌}
use mathlib.Core.List.{List, [], ◌∷◌, ◌++◌, reverse, reverse_aux}
use Prim.Native.Nat.{ℕ, zero, suc, ◌+◌, ◌-◌, ◌<◌, ◌≤◌}
use native.Mathlib.Omega.{arith}
use lib.Dec.{lit≤}
use lib.ListN.{length, get_or, take, drop, replicate, length-append, length-take, length-drop, length-replicate, replicate-append-replicate}
use lib.Seq.{take_at, drop_at}
use Rattle.words.specs.Numbers.{Bytes, none, more, Sized}
use Rattle.words.specs.Slices.{zeros}

pub bytes_take : (n : ℕ) {l : List ℕ} → Bytes l → Bytes (take n l)
bytes_take zero h = none
bytes_take (suc n) none = none
bytes_take (suc n) (more b t) = more b (bytes_take n t)

pub bytes_drop : (n : ℕ) {l : List ℕ} → Bytes l → Bytes (drop n l)
bytes_drop zero h = h
bytes_drop (suc n) none = none
bytes_drop (suc n) (more b t) = bytes_drop n t

pub bytes_append : {k l : List ℕ} → Bytes k → Bytes l → Bytes (k ++ l)
bytes_append none h = h
bytes_append (more b t) h = more b (bytes_append t h)

bytes_onto : {l r : List ℕ} → Bytes l → Bytes r → Bytes (reverse_aux l r)
bytes_onto none h = h
bytes_onto (more b t) h = bytes_onto t (more b h)

pub bytes_reverse : {l : List ℕ} → Bytes l → Bytes (reverse l)
bytes_reverse h = bytes_onto h none

pub bytes_zeros : (n : ℕ) → Bytes (replicate n 0)
bytes_zeros zero = none
bytes_zeros (suc n) = more (lit≤ tt) (bytes_zeros n)

-- each element of a list of bytes, 0 past its end
pub byte_at : {l : List ℕ} → Bytes l → (i : ℕ) → get_or l i 0 < 256
byte_at none i = lit≤ tt
byte_at (more b t) zero = b
byte_at (more b t) (suc i) = byte_at t i

-- what the code knows of a slice of bytes
pub bytes_of : (l : List ℕ) → ((i : ℕ) → get_or l i 0 < 256) → Bytes l
bytes_of [] h = none
bytes_of (a ∷ l) h = more (h 0) (bytes_of l (λ i. h (suc i)))

pub sized_append : (m n : ℕ) (a b : List ℕ) → Sized m a → Sized n b → Sized (m + n) (a ++ b)
sized_append m n a b x y = record { long = simp length-append (omega arith); bytes = bytes_append x.bytes y.bytes }

pub sized_take : (m n : ℕ) (l : List ℕ) → m ≤ n → Sized n l → Sized m (take m l)
sized_take m n l h x = record { long = simp length-take (omega arith); bytes = bytes_take m x.bytes }

pub sized_drop : (m n k : ℕ) (l : List ℕ) → m + k ≡ n → Sized n l → Sized k (drop m l)
sized_drop m n k l h x = record { long = simp length-drop (omega arith); bytes = bytes_drop m x.bytes }

pub sized_zeros : (n : ℕ) → Sized n (zeros n)
sized_zeros n = record { long = length-replicate n 0; bytes = bytes_zeros n }

pub resized : {m n : ℕ} {l : List ℕ} → m ≡ n → Sized m l → Sized n l
resized e x = record { long = x.long ∙ e; bytes = x.bytes }

-- two joins of parts of the same lengths are equal where their parts are
pub append_inj : (a b c d : List ℕ) → length a ≡ length b → a ++ c ≡ b ++ d → (a ≡ b) × (c ≡ d)
append_inj a b c d h e = (
  sym (take_at a c (length a) refl) ∙ ap (take (length a)) e ∙ take_at b d (length a) (sym h),
  sym (drop_at a c (length a) refl) ∙ ap (drop (length a)) e ∙ drop_at b d (length a) (sym h),
)

-- what is left of n equal elements
pub drop_same : (x j n : ℕ) → j ≤ n → drop {A = ℕ} j (replicate n x) ≡ replicate (n - j) x
drop_same x j n h =
    let e : n ≡ j + (n - j) = omega arith in
    ap (λ (k : ℕ). drop {A = ℕ} j (replicate k x)) e ∙ ap (drop {A = ℕ} j) (sym (replicate-append-replicate j (n - j) x))
    ∙ drop_at (replicate j x) (replicate (n - j) x) j (length-replicate j x)
