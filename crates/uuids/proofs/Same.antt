-- The 16 bytes at two places are the same exactly when both halves are, read as numbers; and the words that are read at a place are those of its 16 bytes.
use Prim.Native.Nat.{ℕ, ◌+◌, ◌*◌, ◌/◌, ◌%◌, ◌≤◌}
use mathlib.Core.Path.{◌≡◌, sym, ap, ap₂, ◌∙◌}
use mathlib.Core.Bool.{Bool, true, false}
use mathlib.Core.List.{List, ◌++◌}
use native.Mathlib.Omega.{arith}
use lib.Dec.{eqb}
use lib.ListN.{length, take, drop, length-take, length-drop}
use lib.Seq.{take-add, drop-drop}
use borrow.Author.Tests.{eqb-true, eqb-false}
use Rattle.words.specs.Numbers.{number_low, Bytes}
use Rattle.words.proofs.ByteLaws.{bytes_take, bytes_drop}
use Rattle.words.proofs.NumberLaws.{number_inj}
use Rattle.words.proofs.SliceLaws.{part_of}
use Rattle.uuids.specs.Table.{Tells, id_at, start_of}

-- k bytes at place p + j are those of the 16 bytes at p
within : (s : List ℕ) (p j k : ℕ) → j + k ≤ 16 → take k (drop j (id_at s p)) ≡ take k (drop (p + j) s)
within s p j k h = part_of k j 16 (drop p s) h ∙ ap (λ (l : List ℕ). take k l) (drop-drop j p s)

abbrev num : List ℕ → ℕ → ℕ
num s p = number_low (take 8 (drop p s))

halves : (s : List ℕ) (p : ℕ) → id_at s p ≡ take 8 (drop p s) ++ take 8 (drop (p + 8) s)
halves s p = take-add 8 8 (drop p s) ∙ ap (λ (l : List ℕ). take 8 (drop p s) ++ take 8 l) (drop-drop 8 p s)

module _ (s : List ℕ) (b : Bytes s) where
  eight_same : (p q : ℕ) → p + 8 ≤ length s → q + 8 ≤ length s → num s p ≡ num s q → take 8 (drop p s) ≡ take 8 (drop q s)
  eight_same p q h g e =
      let l : length (take 8 (drop p s)) ≡ length (take 8 (drop q s)) = simp (length-take, length-drop) (omega arith) in
      number_inj (bytes_take 8 (bytes_drop p b)) (bytes_take 8 (bytes_drop q b)) l e

  module _ (p q : ℕ) (h : p + 16 ≤ length s) (g : q + 16 ≤ length s) where
    pub same_told : (r : Bool) → num s p ≡ num s q → r ≡ eqb (num s (p + 8)) (num s (q + 8)) → Tells r (id_at s p ≡ id_at s q)
    same_told true e t =
        halves s p
        ∙ ap₂ ◌++◌ (eight_same p q (omega arith) (omega arith) e) (eight_same (p + 8) (q + 8) (omega arith) (omega arith) (eqb-true _ _ (sym t)))
        ∙ sym (halves s q)
    same_told false e t = λ z.
        eqb-false (num s (p + 8)) (num s (q + 8)) (sym t)
        (ap number_low (sym (within s p 8 8 (omega arith)) ∙ ap (λ (l : List ℕ). take 8 (drop 8 l)) z ∙ within s q 8 8 (omega arith)))

-- where the look-up of the 16 bytes at p starts, from the four words that are read there
pub start_read : (s : List ℕ) (p a b c d : ℕ) → a ≡ number_low (take 4 (drop p s)) → b ≡ number_low (take 4 (drop (p + 4) s)) → c ≡ number_low (take 4 (drop (p + 8) s)) → d ≡ number_low (take 4 (drop (p + 12) s))
    → (a + 3 * b + 5 * c + 7 * d) % 4294967296 * 2654435769 % 4294967296 * 24576 / 4294967296 ≡ start_of (id_at s p)
unfolding start_of
start_read s p a b c d e f g h =
    rw (part_of 4 0 16 (drop p s) (omega arith), within s p 4 4 (omega arith), within s p 8 4 (omega arith), within s p 12 4 (omega arith), e, f, g, h)

-- sums modulo 2^32, term by term
pub wrapped : (a b c d : ℕ) → (((a + b * 3 % 4294967296) % 4294967296 + c * 5 % 4294967296) % 4294967296 + d * 7 % 4294967296) % 4294967296 ≡ (a + 3 * b + 5 * c + 7 * d) % 4294967296
wrapped a b c d = omega arith
