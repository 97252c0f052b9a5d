-- What holds of each element of a list, as a statement and as a test.
use Rattle.std.specs.Prelude.{Bool, true, ◌&&◌, List, [], ◌∷◌}

-- P holds of each element
abbrev pub Each : {A : Type 0} → (A → Type 0) → List A → Type 0
Each P [] = Unit
Each P (a ∷ l) = P a × Each P l

-- a test that each element passes
abbrev pub all_in : {A : Type 0} → (A → Bool) → List A → Bool
all_in t [] = true
all_in t (a ∷ l) = t a && all_in t l
