-- A text over zeros is the text padded with zeros, whatever the lengths are: by recursion on the width.
use Prim.Native.Nat.{ℕ, zero, suc, ◌+◌, ◌-◌, ◌≤◌}
use mathlib.Core.Path.{◌≡◌, sym, ap, ◌∙◌}
use mathlib.Core.List.{List, [], ◌∷◌, ◌++◌, append-nil}
use native.Mathlib.Omega.{arith}
use lib.ListN.{length, take, drop, length-take, length-append, length-replicate, replicate-append-replicate}
use lib.Seq.{take_at, take-append-add, drop-nil}
use Rattle.words.specs.Slices.{zeros, copied}
use Rattle.rows.specs.Login.{padded}

-- the first of n zeros
pub take_zeros : (j n : ℕ) → j ≤ n → take j (zeros n) ≡ zeros j
take_zeros j n h =
    let e : n ≡ j + (n - j) = omega arith in
    ap (λ (k : ℕ). take j (zeros k)) e ∙ ap (take j) (sym (replicate-append-replicate j (n - j) 0)) ∙ take_at (zeros j) (zeros (n - j)) j (length-replicate j 0)

over : (n m : ℕ) (d : List ℕ) → n ≤ m → take n d ++ drop (length d) (zeros n) ≡ take n (d ++ zeros m)
over zero m d h = drop-nil (length d)
over (suc n) zero d h = absurd (omega arith)
over (suc n) (suc m) [] h = ap (λ (l : List ℕ). 0 ∷ l) (sym (take_zeros n m (omega arith)))
over (suc n) (suc m) (a ∷ d) h = ap (λ (l : List ℕ). a ∷ l) (over n (suc m) d (omega arith))

pub over_zeros : (n : ℕ) (d : List ℕ) → copied (zeros n) d ≡ padded n d
unfolding padded
over_zeros n d = rw (length-replicate {A = ℕ} n 0) (over n n d (omega arith))

pub padded_long : (n : ℕ) (d : List ℕ) → length (padded n d) ≡ n
unfolding padded
padded_long n d = simp (length-take, length-append, length-replicate) (omega arith)

pub padded_is : (n : ℕ) (d : List ℕ) → length d ≤ n → padded n d ≡ d ++ zeros (n - length d)
unfolding padded
padded_is n d h =
    let e : n ≡ length d + (n - length d) = omega arith in
    ap (λ (k : ℕ). take k (d ++ zeros n)) e
    ∙ take-append-add d (zeros n) (n - length d)
    ∙ rw (take_zeros (n - length d) n (omega arith))

pub padded_full : (n : ℕ) (d : List ℕ) → length d ≡ n → padded n d ≡ d
padded_full n d h = let z : n - length d ≡ 0 = omega arith in padded_is n d (omega arith) ∙ rw z (append-nil d)
