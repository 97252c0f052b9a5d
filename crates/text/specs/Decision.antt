-- The decision that the code makes: a run over the bytes, and two looks at the ends. It is `None` exactly for the texts of `Grammar.antt`, and else gives the number of
-- `GoesWrong.antt` (both in proofs/GoesWrong.antt).
use Rattle.std.specs.Prelude.{ℕ, zero, suc, ◌-◌, List, [], ◌∷◌, Bool, true, false, cond, ltb, leb, eqb, length, take, get_or, Option, None, Some}
use Rattle.text.specs.declared.Utf8.{Utf8}
use Rattle.text.specs.declared.Utf8.TheVariants.{Start, More, Bad}

-- what a first byte lets follow
abbrev pub first_of : ℕ → Utf8
first_of b =
    cond (ltb b 0x80) Start
    (cond (ltb b 0xc2) Bad
    (cond (ltb b 0xe0) (More 1 0x80 0xbf)
    (cond (eqb b 0xe0) (More 2 0xa0 0xbf)
    (cond (eqb b 0xed) (More 2 0x80 0x9f)
    (cond (ltb b 0xf0) (More 2 0x80 0xbf)
    (cond (eqb b 0xf0) (More 3 0x90 0xbf)
    (cond (ltb b 0xf4) (More 3 0x80 0xbf)
    (cond (eqb b 0xf4) (More 3 0x80 0x8f) Bad))))))))

-- what a byte lets follow, by what may come
abbrev pub after_byte : Utf8 → ℕ → Utf8
after_byte Start b = first_of b
after_byte (More left low high) b =
    cond (ltb b low) Bad (cond (ltb high b) Bad (cond (leb left 1) Start (More (left - 1) 0x80 0xbf)))
after_byte Bad b = Bad

-- a character ends here
abbrev pub whole : Utf8 → Bool
whole Start = true
whole (More left low high) = false
whole Bad = false

-- whether the bytes, from a state on, end where a character ends
unfoldable pub ends_whole : Utf8 → List ℕ → Bool
ends_whole u [] = whole u
ends_whole u (b ∷ bs) = ends_whole (after_byte u b) bs

-- well-formed UTF-8
abbrev pub utf8_of : List ℕ → Bool
utf8_of s = ends_whole Start s

-- starts with the byte order mark
abbrev pub marked_of : List ℕ → Bool
marked_of s =
    cond (ltb (length s) 3) false
    (cond (eqb (get_or s 0 0) 0xef) (cond (eqb (get_or s 1 0) 0xbb) (eqb (get_or s 2 0) 0xbf) false) false)

-- ends in 00
abbrev pub ends_in_zero : List ℕ → Bool
ends_in_zero s = cond (eqb (length s) 0) false (eqb (get_or s (length s - 1) 0) 0)

-- the greatest number up to n of which p holds, 0 where there is none
unfoldable pub greatest : (ℕ → Bool) → ℕ → ℕ
greatest p zero = 0
greatest p (suc n) = cond (p (suc n)) (suc n) (greatest p n)

-- the number of bytes of the longest well-formed start
abbrev pub formed_start : List ℕ → ℕ
formed_start s = greatest (λ n. utf8_of (take n s)) (length s)

-- the number of bytes before a final 00; all where there is none
abbrev pub before_final_zero : List ℕ → ℕ
before_final_zero s = cond (ends_in_zero s) (length s - 1) (length s)

abbrev pub smaller_of : ℕ → ℕ → ℕ
smaller_of a b = cond (ltb a b) a b

-- the smallest number that applies, which is the length where nothing is wrong
abbrev pub right_of : List ℕ → ℕ
right_of s = cond (marked_of s) 0 (smaller_of (formed_start s) (before_final_zero s))

unfoldable pub goes_wrong_of : List ℕ → Option ℕ
goes_wrong_of s = cond (ltb (right_of s) (length s)) (Some (right_of s)) None
