-- Numbers in an answer: 8 bytes each, the lowest first, one after the other.
use Rattle.std.specs.Prelude.{ℕ, List, [], ◌∷◌, ◌++◌, take}
use Rattle.words.specs.Numbers.{bytes_low}
use Rattle.words.specs.Slices.{zeros}

-- n numbers: the values of an answer, and zeros after them
abbrev pub with_zeros : ℕ → List ℕ → List ℕ
with_zeros n l = take n (l ++ zeros n)

-- 1 before the values, where there are any
abbrev pub marked : List ℕ → List ℕ
marked [] = []
marked (x ∷ l) = 1 ∷ x ∷ l

unfoldable pub in_bytes : List ℕ → List ℕ
in_bytes [] = []
in_bytes (x ∷ xs) = bytes_low 8 x ++ in_bytes xs
