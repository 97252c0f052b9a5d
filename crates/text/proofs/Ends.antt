-- The tests at the two ends of a text say what the list says: each way by the list's shape.
use Prim.Native.Nat.{ℕ, suc, ◌+◌, ◌-◌, ◌<◌}
use mathlib.Core.Path.{◌≡◌, refl, sym, ap, ◌∙◌}
use mathlib.Core.Bool.{Bool, true, false, cond, false≢true, true≢false}
use mathlib.Core.List.{List, [], ◌∷◌, ◌++◌}
use native.Mathlib.Omega.{arith}
use lib.Dec.{ltb, eqb}
use lib.ListN.{length, take, get_or, length-append, drop_of_length-le}
use lib.Seq.{split_at, get_or_at}
use borrow.Author.Tests.{le-ltb, ne_eqb, eqb-true}
use Rattle.text.specs.Decision.{marked_of, ends_in_zero}

marked_out : (t : List ℕ) → marked_of (0xef ∷ 0xbb ∷ 0xbf ∷ t) ≡ true
marked_out t = rw (le-ltb (length (0xef ∷ 0xbb ∷ 0xbf ∷ t)) 3 (omega arith))

pub marked_in : (s : List ℕ) → marked_of s ≡ true → (t : List ℕ) × (s ≡ 0xef ∷ 0xbb ∷ 0xbf ∷ t)
marked_in [] h = absurd (false≢true h)
marked_in (a ∷ []) h = absurd (false≢true h)
marked_in (a ∷ b ∷ []) h = absurd (false≢true h)
marked_in (a ∷ b ∷ c ∷ t) h =
    by (ltb (length (a ∷ b ∷ c ∷ t)) 3) (eqb a 0xef) (eqb b 0xbb) (eqb c 0xbf) h (eqb-true a 0xef) (eqb-true b 0xbb) (eqb-true c 0xbf)
  where
    by : (x y z w : Bool) → cond x false (cond y (cond z w false) false) ≡ true
        → (y ≡ true → a ≡ 0xef) → (z ≡ true → b ≡ 0xbb) → (w ≡ true → c ≡ 0xbf) → (t' : List ℕ) × (a ∷ b ∷ c ∷ t ≡ 0xef ∷ 0xbb ∷ 0xbf ∷ t')
    by true y z w e f g i = absurd (false≢true e)
    by false false z w e f g i = absurd (false≢true e)
    by false true false w e f g i = absurd (false≢true e)
    by false true true w e f g i = (t, rw (f refl, g refl, i e))

zero_out : (t : List ℕ) → ends_in_zero (t ++ (0x00 ∷ [])) ≡ true
zero_out t =
    rw (
      length-append t (0x00 ∷ []),
      ne_eqb (length t + 1) 0 (λ e. omega arith),
      get_or_at t 0x00 [] 0 (length t + 1 - 1) (omega arith),
    )

pub zero_in : (s : List ℕ) → ends_in_zero s ≡ true → (t : List ℕ) × (s ≡ t ++ (0x00 ∷ []))
zero_in [] h = absurd (false≢true h)
zero_in (a ∷ s) h =
    let n = length (a ∷ s) in
    let l : n - 1 < n = omega arith in
    let z : get_or (a ∷ s) (n - 1) 0 ≡ 0 = eqb-true (get_or (a ∷ s) (n - 1) 0) 0 (rw (ne_eqb n 0 (λ e. omega arith)) at h) in
    (take (n - 1) (a ∷ s), split_at (a ∷ s) (n - 1) 0 l ∙ rw (z, drop_of_length-le (a ∷ s) {i = suc (n - 1)} (omega arith)))

pub unmarked : (s : List ℕ) → marked_of s ≡ false → (t : List ℕ) → s ≡ 0xef ∷ 0xbb ∷ 0xbf ∷ t → ⊥
unmarked s h t e = true≢false (sym (marked_out t) ∙ ap marked_of (sym e) ∙ h)

pub unended : (s : List ℕ) → ends_in_zero s ≡ false → (t : List ℕ) → s ≡ t ++ (0x00 ∷ []) → ⊥
unended s h t e = true≢false (sym (zero_out t) ∙ ap ends_in_zero (sym e) ∙ h)
