-- A part of a list written anew: what stands before it and behind it stays, by dropping twice.
use Prim.Native.Nat.{ℕ, ◌+◌, ◌-◌, ◌≤◌}
use mathlib.Core.Path.{◌≡◌}
use mathlib.Core.List.{List, ◌++◌}
use native.Mathlib.Omega.{arith}
use lib.ListN.{take, drop}
use lib.Seq.{drop-drop}

-- the part from p to q written anew, all else as it was
pub replaced : (b x y : List ℕ) (p q : ℕ) → p ≤ q → x ≡ y → take p b ++ (x ++ drop (q - p) (drop p b)) ≡ take p b ++ (y ++ drop q b)
replaced b x y p q h e = let z : p + (q - p) ≡ q = omega arith in rw (e, drop-drop (q - p) p b, z)
