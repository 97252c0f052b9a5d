-- The tests of a column are the definition's, and so are the values that are read: each column has its width, since the row is whole.
use Prim.Native.Nat.{ℕ, ◌+◌, ◌-◌, ◌≤◌}
use mathlib.Core.Path.{◌≡◌, ◌∙◌}
use mathlib.Core.Bool.{not, ◌&&◌}
use mathlib.Core.List.{List}
use native.Mathlib.Omega.{arith}
use lib.ListN.{length, take, drop, length-take, length-drop}
use Rattle.words.specs.Slices.{zeros, same}
use Rattle.rows.specs.Fit.{unfit}
use Rattle.rows.specs.Import.{column, before_zero, fine_column}

pub column_long : (r : List ℕ) → length r ≡ 256 → (p n : ℕ) → p + n ≤ 256 → length (column p n r) ≡ n
column_long r h p n l = simp (length-take, length-drop) (omega arith)

pub column_fine : (k n z : ℕ) (c text rest : List ℕ) → length c ≡ n → z ≡ before_zero c → text ≡ take z c → rest ≡ drop z c
    → (not (unfit k n text) && same rest (zeros (length rest))) ≡ fine_column k n c
unfolding fine_column
column_fine k n z c text rest h e t r = let m : length (drop z c) ≡ n - z = length-drop z c ∙ omega arith in rw (r, t, m, e)
