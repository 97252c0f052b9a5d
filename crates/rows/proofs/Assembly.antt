-- A row is laid from its start on: what is laid so far, then zeros. Each column goes right after what is laid, so that only lengths say where.
use Prim.Native.Nat.{ℕ, ◌+◌, ◌-◌, ◌≤◌}
use mathlib.Core.Path.{◌≡◌, refl, sym, ap, ◌∙◌}
use mathlib.Core.List.{List, [], ◌++◌, append_assoc}
use native.Mathlib.Omega.{arith}
use lib.ListN.{length, take, drop, length-append}
use lib.Seq.{take_at, drop_at, drop-drop}
use Rattle.std.specs.Int.{w32, to_le_bytes}
use Rattle.words.specs.Numbers.{bytes_low}
use Rattle.words.specs.Slices.{zeros}
use Rattle.words.proofs.ByteLaws.{drop_same}
use Rattle.words.proofs.Conversions.{to_le_word}
use Rattle.rows.specs.Login.{Login, padded, row_of}
use Rattle.rows.specs.Laying.{with_column}
use Rattle.rows.proofs.Padding.{take_zeros, over_zeros, padded_long, padded_full}

-- w is laid of the n bytes of r, as far as i
pub record Laid (n i : ℕ) (w r : List ℕ) : Type 0 where
  far : i ≤ n
  long : length w ≡ i
  is : r ≡ w ++ zeros (n - i)

pub laid_start : (n : ℕ) → Laid n 0 [] (zeros n)
laid_start n = let z : n - 0 ≡ n = omega arith in record { far = omega arith; long = refl; is = rw z }

pub laid_column : (n i : ℕ) (w r : List ℕ) → Laid n i w r → (k : ℕ) (d y : List ℕ) → i + k ≤ n → y ≡ with_column i k d r → Laid n (i + k) (w ++ padded k d) y
laid_column n i w r l k d y h e =
    let b : drop i r ≡ zeros (n - i) = rw l.is (drop_at w (zeros (n - i)) i l.long) in
    let f : take i r ≡ w = rw l.is (take_at w (zeros (n - i)) i l.long) in
    let z : take k (drop i r) ≡ zeros k = rw b (take_zeros k (n - i) (omega arith)) in
    let m : n - i - k ≡ n - (i + k) = omega arith in
    let g : drop (i + k) r ≡ zeros (n - (i + k)) = sym (drop-drop k i r) ∙ rw b (drop_same 0 k (n - i) (omega arith) ∙ ap zeros m) in
    record {
      far = h;
      long = length-append w (padded k d) ∙ rw (l.long, padded_long k d);
      is = e ∙ rw (f, z, over_zeros, g) (sym (append_assoc w (padded k d) (zeros (n - (i + k)))));
    }

-- the days, in their four bytes
in_bytes : (x : ℕ) → padded 4 (to_le_bytes w32 x) ≡ bytes_low 4 x
in_bytes x = padded_full 4 (to_le_bytes w32 x) refl ∙ to_le_word x

pub is_row : (l : Login) (r : List ℕ)
    → Laid 256 252 ((((([] ++ padded 16 l.uuid) ++ padded 80 l.title) ++ padded 80 l.user) ++ padded 72 l.group) ++ padded 4 (to_le_bytes w32 l.days)) r
    → r ≡ row_of l
unfolding row_of
is_row l r h = h.is ∙ simp append_assoc (rw (in_bytes l.days))
