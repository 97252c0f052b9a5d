-- The exclusive or of two lists, place by place, as far as the shorter one goes.
use Rattle.std.specs.Prelude.{List, [], ◌∷◌, ℕ}
use Rattle.std.specs.Int.Bits.{bit_xor}

unfoldable pub xored : List ℕ → List ℕ → List ℕ
xored [] t = []
xored (a ∷ s) [] = []
xored (a ∷ s) (b ∷ t) = bit_xor a b ∷ xored s t
