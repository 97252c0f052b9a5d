-- What a copy as far as it has come is at the end, what a copy over as many bytes is, what a part put after another leaves, what a part of a start is, and what a comparison tells. By recursion on the
-- list, and by the lengths of its parts.
use mathlib.Core.Path.{◌≡◌, refl, sym, ap, ap₂, ◌∙◌}
use mathlib.Core.Bool.{Bool, true, false, cond, ◌&&◌}
use mathlib.Core.List.{List, [], ◌∷◌, ◌++◌, append_assoc, append-nil}
use Prim.Native.Nat.{ℕ, zero, suc, ◌+◌, ◌≤◌, min}
use native.Mathlib.Omega.{arith}
use native.Mathlib.Nat.{zero-add}
use borrow.Rule.Slice.PartMut.{put_mid}
use borrow.Author.Tests.{eq-eqb, eqb-true}
use lib.Dec.{eqb}
use lib.ListN.{length, take, drop, replicate, length-replicate, drop_of_length-le}
use lib.Seq.{paste, take_all, take_at, take-take, drop_at}
use Rattle.std.proofs.Math.Nat.{min_comm}
use Rattle.std.proofs.lemmas.List.{take_min, drop_min}
use Rattle.std.specs.Cmp.Lexicographic.{pointwise}
use Rattle.words.specs.Slices.{copied, same}

-- where the shorter of the two ends, all is copied that fits
pub copied_most : (d s : List ℕ) (i : ℕ) → i ≡ min (length d) (length s) → paste d 0 s i ≡ copied d s
copied_most d s i h =
    ap₂ (λ (k n : ℕ). take k s ++ drop n d) h (zero-add i ∙ (h ∙ min_comm (length d) (length s)))
    ∙ ap₂ ◌++◌ (take_min (length d) s) (drop_min (length s) d)

-- a part over as many bytes, and a value over as many zeros
pub copied_over : (d s : List ℕ) → length d ≡ length s → copied d s ≡ s
copied_over d s h =
    ap₂ ◌++◌ (take_all (length d) s (omega arith)) (drop_of_length-le d {i = length s} (omega arith)) ∙ append-nil s

pub copied_whole : (n : ℕ) (s : List ℕ) → length s ≡ n → copied (replicate n 0) s ≡ s
copied_whole n s h = copied_over (replicate n 0) s (length-replicate n 0 ∙ sym h)

-- x, which is q, put into the n bytes right after p
pub put_next : (p q d x : List ℕ) (m n : ℕ) → length p ≡ m → x ≡ q → put_mid m n (p ++ d) x ≡ (p ++ q) ++ drop n d
put_next p q d x m n h e = rw (take_at p d m h, drop_at p d m h, e, append_assoc p q (drop n d))

-- a part of a start is a part of the whole
pub part_of : (k p m : ℕ) (l : List ℕ) → p + k ≤ m → take k (drop p (take m l)) ≡ take k (drop p l)
part_of k zero m l h = take-take k m l (omega arith)
part_of k (suc p) zero l h = absurd (omega arith)
part_of k (suc p) (suc m) [] h = refl
part_of k (suc p) (suc m) (x ∷ l) h = part_of k p m l (omega arith)

pub same_refl : (s : List ℕ) → same s s ≡ true
unfolding same
same_refl [] = refl
same_refl (a ∷ s) = rw (eq-eqb a a refl) (same_refl s)

-- std's comparison of slices
pub same_pointwise : (s t : List ℕ) → pointwise eqb s t ≡ same s t
unfolding same
same_pointwise [] [] = refl
same_pointwise [] (b ∷ t) = refl
same_pointwise (a ∷ s) [] = refl
same_pointwise (a ∷ s) (b ∷ t) = by (eqb a b) (same_pointwise s t)
  where
    by : (e : Bool) → pointwise eqb s t ≡ same s t → (e && pointwise eqb s t) ≡ cond e (same s t) false
    by true h = h
    by false h = refl

both : (e f : Bool) → cond e f false ≡ true → (e ≡ true) × (f ≡ true)
both true f h = (refl, h)
both false f h = absurd (let z : ◌≡◌ {A = ℕ} 0 1 = cc in omega arith)

pub same_true : (s t : List ℕ) → same s t ≡ true → s ≡ t
unfolding same
same_true [] [] h = refl
same_true [] (b ∷ t) h = absurd (let z : ◌≡◌ {A = ℕ} 0 1 = cc in omega arith)
same_true (a ∷ s) [] h = absurd (let z : ◌≡◌ {A = ℕ} 0 1 = cc in omega arith)
same_true (a ∷ s) (b ∷ t) h =
    let g = both (eqb a b) (same s t) h in
    ap₂ ◌∷◌ (eqb-true a b g.0) (same_true s t g.1)

pub same_false : (s t : List ℕ) → (s ≡ t → ⊥) → false ≡ same s t
same_false s t h = go (same s t) refl
  where
    go : (b : Bool) → same s t ≡ b → false ≡ b
    go true e = absurd (h (same_true s t e))
    go false e = refl

pub length_differs : (s t : List ℕ) → (length s ≡ length t → ⊥) → false ≡ same s t
length_differs s t h = same_false s t (λ e. h (ap length e))
