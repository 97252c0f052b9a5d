-- Numbers in a list, and the list of the numbers from one to another.
use Rattle.std.specs.Prelude.{ℕ, zero, suc, ◌-◌, Bool, false, ◌||◌, List, [], ◌∷◌, eqb}

-- k is in the list
abbrev pub among : ℕ → List ℕ → Bool
among k [] = false
among k (t ∷ ts) = eqb k t || among k ts

-- the n numbers from a on
abbrev pub counted_from : ℕ → ℕ → List ℕ
counted_from a zero = []
counted_from a (suc n) = a ∷ counted_from (suc a) n

-- the numbers a to b
abbrev pub to : ℕ → ℕ → List ℕ
to a b = counted_from a (suc b - a)
