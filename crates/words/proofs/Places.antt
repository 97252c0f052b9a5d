-- Four bytes of a list are those at four indices, and eight bytes are two words: by cases on the list, and by the number of two lists joined.
use Prim.Native.Nat.{ℕ, ◌+◌, ◌*◌, ◌^◌, ◌≤◌}
use mathlib.Core.Path.{◌≡◌, refl, sym, ap, ◌∙◌}
use mathlib.Core.List.{List, [], ◌∷◌}
use native.Mathlib.Nat.{add-zero}
use native.Mathlib.Omega.{arith}
use lib.ListN.{length, take, drop, get_or, length-drop}
use lib.Seq.{get_or-drop, drop-drop, length-take-le, take-add, take_all}
use Rattle.words.specs.Numbers.{number_low}
use Rattle.words.proofs.NumberLaws.{number_append}

-- the four bytes of s at place p
abbrev pub four_at : List ℕ → ℕ → List ℕ
four_at s p = get_or s p 0 ∷ get_or s (p + 1) 0 ∷ get_or s (p + 2) 0 ∷ get_or s (p + 3) 0 ∷ []

four : (s : List ℕ) → 4 ≤ length s → take 4 s ≡ four_at s 0
four [] h = absurd (omega arith)
four (a ∷ []) h = absurd (omega arith)
four (a ∷ b ∷ []) h = absurd (omega arith)
four (a ∷ b ∷ c ∷ []) h = absurd (omega arith)
four (a ∷ b ∷ c ∷ d ∷ s) h = refl

pub four_at_lem : (s : List ℕ) (p : ℕ) → p + 4 ≤ length s → take 4 (drop p s) ≡ four_at s p
four_at_lem s p h =
    let l : 4 ≤ length (drop p s) = simp length-drop (omega arith) in
    four (drop p s) l ∙ rw (get_or-drop p s 0 0, get_or-drop p s 1 0, get_or-drop p s 2 0, get_or-drop p s 3 0, add-zero)

-- eight bytes are two words, one after the other
pub two_words : (s : List ℕ) (p : ℕ) → p + 8 ≤ length s
    → number_low (take 8 (drop p s)) ≡ number_low (take 4 (drop p s)) + 2 ^ 32 * number_low (take 4 (drop (p + 4) s))
two_words s p h =
    let l : length (take 4 (drop p s)) ≡ 4 = length-take-le 4 (drop p s) (simp length-drop (omega arith)) in
    ap number_low (take-add 4 4 (drop p s))
    ∙ rw (drop-drop 4 p s) (number_append (take 4 (drop p s)) (take 4 (drop (p + 4) s)))
    ∙ ap (λ (n : ℕ). number_low (take 4 (drop p s)) + 2 ^ (8 * n) * number_low (take 4 (drop (p + 4) s))) l

-- a list of so many bytes is what stands at its indices
pub whole_four : (d : List ℕ) → length d ≡ 4 → four_at d 0 ≡ d
whole_four d h = sym (four d (omega arith)) ∙ take_all 4 d (omega arith)

pub whole_two : (d : List ℕ) → length d ≡ 2 → number_low (get_or d 0 0 ∷ get_or d 1 0 ∷ 0 ∷ 0 ∷ []) ≡ number_low d
unfolding number_low
whole_two [] h = absurd (omega arith)
whole_two (a ∷ []) h = absurd (omega arith)
whole_two (a ∷ b ∷ []) h = refl
whole_two (a ∷ b ∷ c ∷ d) h = absurd (omega arith)
