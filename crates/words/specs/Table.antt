-- Tables: what stands at a place of a list, 0 past its end, and the list of what a function gives.
use Rattle.std.specs.Prelude.{ℕ, zero, suc, List, [], ◌∷◌, get_or}

abbrev pub at : List ℕ → ℕ → ℕ
at l i = get_or l i 0

-- f at i, i + 1, .., n of them
abbrev pub from : ℕ → (ℕ → ℕ) → ℕ → List ℕ
from zero f i = []
from (suc n) f i = f i ∷ from n f (suc i)

-- f at 0, 1, .., n - 1
abbrev pub table : ℕ → (ℕ → ℕ) → List ℕ
table n f = from n f 0
