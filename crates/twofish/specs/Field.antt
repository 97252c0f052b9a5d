-- Bytes as polynomials over GF(2), modulo a polynomial p of degree 8, and matrices of them (the paper's 4.2 and 4.3).
use Rattle.std.specs.Prelude.{cond, List, [], ◌∷◌, ℕ, zero, suc, ◌*◌, ◌/◌, ◌%◌, ltb}
use Rattle.std.specs.Int.Bits.{bit_xor}

-- the sum of two polynomials: the exclusive or, bit by bit
infixl 60 ◌⊕◌
abbrev pub ◌⊕◌ : ℕ → ℕ → ℕ
◌⊕◌ = bit_xor

-- a times x
unfoldable pub twice : ℕ → ℕ → ℕ
twice p a = cond (ltb (2 * a) 256) (2 * a) (2 * a ⊕ p)

-- the sum of a xⁱ over those of the n lowest bits i of b that are set
unfoldable pub times : ℕ → ℕ → ℕ → ℕ → ℕ
times p zero a b = 0
times p (suc n) a b = b % 2 * a ⊕ times p n (twice p a) (b / 2)

-- a times b
unfoldable pub gf : ℕ → ℕ → ℕ → ℕ
gf p a b = times p 8 a b

-- a row times a column, added to a sum
abbrev pub dot : ℕ → ℕ → List ℕ → List ℕ → ℕ
dot p sum [] ys = sum
dot p sum (m ∷ ms) [] = sum
dot p sum (m ∷ ms) (y ∷ ys) = dot p (sum ⊕ gf p m y) ms ys

-- a matrix, given by its rows, times a column
abbrev pub product : ℕ → List (List ℕ) → List ℕ → List ℕ
product p [] ys = []
product p (row ∷ rows) ys = dot p 0 row ys ∷ product p rows ys
