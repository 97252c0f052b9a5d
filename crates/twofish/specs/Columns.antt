-- How the code multiplies by the MDS matrix: column by column, by halving among the polynomials modulo 0x169.
use Rattle.std.specs.Prelude.{ℕ, ◌/◌, ◌%◌, cond, [], ◌∷◌, eqb}
use Rattle.words.specs.Numbers.{number_low}
use Rattle.twofish.specs.Field.{◌⊕◌, gf}

-- x divided by the polynomial x
unfoldable pub half : ℕ → ℕ
half x = cond (eqb (x % 2) 0) (x / 2) (x / 2 ⊕ 0xB4)

unfoldable pub col0 : ℕ → ℕ
col0 y = number_low (y ∷ gf 0x169 0x5B y ∷ gf 0x169 0xEF y ∷ gf 0x169 0xEF y ∷ [])

unfoldable pub col1 : ℕ → ℕ
col1 y = number_low (gf 0x169 0xEF y ∷ gf 0x169 0xEF y ∷ gf 0x169 0x5B y ∷ y ∷ [])

unfoldable pub col2 : ℕ → ℕ
col2 y = number_low (gf 0x169 0x5B y ∷ gf 0x169 0xEF y ∷ y ∷ gf 0x169 0xEF y ∷ [])

unfoldable pub col3 : ℕ → ℕ
col3 y = number_low (gf 0x169 0x5B y ∷ y ∷ gf 0x169 0xEF y ∷ gf 0x169 0x5B y ∷ [])

-- column j; a j past 3 counts as 3
unfoldable pub column : ℕ → ℕ → ℕ
column j y = cond (eqb j 0) (col0 y) (cond (eqb j 1) (col1 y) (cond (eqb j 2) (col2 y) (col3 y)))
