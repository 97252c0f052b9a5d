-- Lists that are glued together: parts of the same lengths are equal where their glue is, and a list is its parts: by recursion on the parts.
use Prim.Native.Nat.{ℕ, ◌+◌}
use mathlib.Core.Path.{◌≡◌, refl, ap, ap₂, ◌∙◌}
use mathlib.Core.Bool.{Bool, true, false, ◌&&◌}
use mathlib.Core.List.{List, [], ◌∷◌, ◌++◌, map}
use native.Mathlib.Omega.{arith}
use borrow.Author.Tests.{not-false}
use lib.ListN.{length, take, drop, length-append, take-append-drop}
use lib.Seq.{drop-drop}
use Rattle.words.specs.Slices.{same}
use Rattle.words.proofs.ByteLaws.{append_inj}
use Rattle.words.proofs.SliceLaws.{same_true, same_refl}
use Rattle.file.specs.Layout.{glue, differ}

pub glue_inj : (ps qs : List (List ℕ)) → map length ps ≡ map length qs → glue ps ≡ glue qs → ps ≡ qs
unfolding glue
glue_inj [] [] h e = refl
glue_inj [] (q ∷ qs) h e = absurd (let z : ◌≡◌ {A = ℕ} 0 1 = cc in omega arith)
glue_inj (p ∷ ps) [] h e = absurd (let z : ◌≡◌ {A = ℕ} 0 1 = cc in omega arith)
glue_inj (p ∷ ps) (q ∷ qs) h e =
    let g = append_inj p q (glue ps) (glue qs) (cc) e in
    ap₂ ◌∷◌ g.0 (glue_inj ps qs (cc) g.1)

-- the length of what is glued
unfoldable pub sum : List ℕ → ℕ
sum [] = 0
sum (a ∷ l) = a + sum l

pub length_glue : (ps : List (List ℕ)) → length (glue ps) ≡ sum (map length ps)
unfolding glue sum
length_glue [] = refl
length_glue (p ∷ ps) = length-append p (glue ps) ∙ ap (λ (n : ℕ). length p + n) (length_glue ps)

-- the part from i to j, before what follows
pub peel : (i k j : ℕ) (l : List ℕ) → i + k ≡ j → take k (drop i l) ++ drop j l ≡ drop i l
peel i k j l h = rw (← h, ← drop-drop k i l) (take-append-drop k (drop i l))

pub and_true : (s t : Bool) → s && t ≡ true → (s ≡ true) × (t ≡ true)
and_true true true h = (refl, refl)
and_true true false h = absurd (let z : ◌≡◌ {A = ℕ} 0 1 = cc in omega arith)
and_true false true h = absurd (let z : ◌≡◌ {A = ℕ} 0 1 = cc in omega arith)
and_true false false h = absurd (let z : ◌≡◌ {A = ℕ} 0 1 = cc in omega arith)

-- two lists do not differ when they are the same
pub same_of : (a b : List ℕ) → differ a b ≡ false → a ≡ b
same_of a b h = same_true a b (not-false (same a b) h)

pub same_is : (a b : List ℕ) → a ≡ b → differ a b ≡ false
same_is a b e = rw (← e, same_refl a)
