-- What zeroing, copying and comparing come to.
use Rattle.std.specs.Prelude.{Bool, true, false, cond, List, [], ◌∷◌, ◌++◌, ℕ, eqb, length, take, drop, replicate}

-- n zeros
abbrev pub zeros : ℕ → List ℕ
zeros n = replicate n 0

-- t over the start of s, as far as s goes; what t does not reach stays
abbrev pub copied : List ℕ → List ℕ → List ℕ
copied s t = take (length s) t ++ drop (length t) s

-- the two lists are the same
unfoldable pub same : List ℕ → List ℕ → Bool
same [] [] = true
same [] (b ∷ t) = false
same (a ∷ s) [] = false
same (a ∷ s) (b ∷ t) = cond (eqb a b) (same s t) false
