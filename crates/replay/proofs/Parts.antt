-- An entry that is laid is its three parts: by their lengths.
use Prim.Native.Nat.{ℕ, ◌≤◌}
use mathlib.Core.Path.{◌≡◌, refl, ap, ◌∙◌}
use mathlib.Core.List.{List, ◌++◌, append_assoc, append-nil}
use native.Mathlib.Omega.{arith}
use borrow.Rule.Slice.PartMut.{put_mid}
use lib.ListN.{length, length-append}
use Rattle.std.specs.Int.{w64, to_le_bytes}
use Rattle.words.specs.Numbers.{bytes_low}
use Rattle.words.specs.Slices.{zeros}
use Rattle.words.proofs.Conversions.{to_le_wide}
use Rattle.words.proofs.NumberLaws.{bytes_sized}
use Rattle.words.proofs.SliceLaws.{put_next}
use Rattle.replay.specs.State.{entry_of}

-- the first two of three parts leave room for the third
pub two_long : (x y : List ℕ) → length x ≡ 16 → length y ≡ 8 → 32 ≤ length (put_mid 16 8 (x ++ zeros 16) y)
two_long x y h l =
    omega (arith, ap length (put_next x y (zeros 16) y 16 8 h refl), length-append (x ++ y) (zeros 8), length-append x y)

-- a UUID and two marks, each in its part
pub three_parts : (u x y z : List ℕ) (c d : ℕ) → length u ≡ 16 → x ≡ u → y ≡ to_le_bytes w64 c → z ≡ to_le_bytes w64 d
    → put_mid 24 8 (put_mid 16 8 (x ++ zeros 16) y) z ≡ entry_of u c d
three_parts u x y z c d l p q r =
    let m : length (u ++ bytes_low 8 c) ≡ 24 = rw (length-append u (bytes_low 8 c), (bytes_sized 8 c).long) (omega arith) in
    ap (λ (g : List ℕ). put_mid 24 8 (put_mid 16 8 (g ++ zeros 16) y) z) p
    ∙ ap (λ (g : List ℕ). put_mid 24 8 g z) (put_next u (bytes_low 8 c) (zeros 16) y 16 8 l (q ∙ to_le_wide c))
    ∙ put_next (u ++ bytes_low 8 c) (bytes_low 8 d) (zeros 8) z 24 8 m (r ∙ to_le_wide d)
    ∙ append-nil ((u ++ bytes_low 8 c) ++ bytes_low 8 d)
    ∙ append_assoc u (bytes_low 8 c) (bytes_low 8 d)
