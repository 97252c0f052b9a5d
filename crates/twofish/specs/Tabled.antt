-- The four tables of g, entry by entry; and the cipher as the code has it, over any schedule: its tables of g, and its subkeys.
-- With the schedule that a key makes it is Twofish under that key.
use Rattle.std.specs.Prelude.{ℕ, cond, List, [], ◌∷◌, eqb, get_or}
use Rattle.words.specs.Numbers.{byte_of}
use Rattle.words.specs.Table.{at, table}
use Rattle.twofish.specs.Field.{◌⊕◌}
use Rattle.twofish.specs.Q.{q0, q1}
use Rattle.twofish.specs.Key.{y0, y1, y2, y3, mds, box_key, subkeys}
use Rattle.twofish.specs.Cipher.{encrypt, decrypt}
use Rattle.twofish.specs.declared.Block.{Block}
use Rattle.twofish.specs.declared.Schedule.{Schedule}

module _ (q0 q1 : ℕ → ℕ) where
  -- q0 and q1 by their numbers; a number past 1 counts as 1
  unfoldable pub q : ℕ → ℕ → ℕ
  q n x = cond (eqb n 0) (q0 x) (q1 x)

module _ (q0 q1 : ℕ → ℕ) (l : List ℕ) where
  -- y0 to y3 by their numbers; a j past 3 counts as 3
  unfoldable pub y : ℕ → ℕ → ℕ
  y j x = cond (eqb j 0) (y0 q0 q1 l x) (cond (eqb j 1) (y1 q0 q1 l x) (cond (eqb j 2) (y2 q0 q1 l x) (y3 q0 q1 l x)))

  -- what byte j of a word, x, adds to h: column j of the MDS matrix times y of x; a j past 3 counts as 3
  unfoldable pub entry : ℕ → ℕ → ℕ
  entry j x =
      cond (eqb j 0) (mds (y0 q0 q1 l x) 0 0 0)
      (cond (eqb j 1) (mds 0 (y1 q0 q1 l x) 0 0) (cond (eqb j 2) (mds 0 0 (y2 q0 q1 l x) 0) (mds 0 0 0 (y3 q0 q1 l x))))

  -- table j: one entry for each byte
  unfoldable pub filled : ℕ → List ℕ
  filled j = table 256 (entry j)

-- what the key m makes
unfoldable pub schedule_of : List ℕ → Schedule
schedule_of m =
    record {
      g = filled q0 q1 (box_key m) 0 ∷ filled q0 q1 (box_key m) 1 ∷ filled q0 q1 (box_key m) 2 ∷ filled q0 q1 (box_key m) 3 ∷ [];
      k = subkeys q0 q1 m;
    }

-- g by one look-up for each byte of a word
unfoldable pub tabled_g : List (List ℕ) → ℕ → ℕ
tabled_g g x =
    at (get_or g 0 []) (byte_of 0 x) ⊕ at (get_or g 1 []) (byte_of 1 x) ⊕ at (get_or g 2 []) (byte_of 2 x) ⊕ at (get_or g 3 []) (byte_of 3 x)

unfoldable pub tabled_encrypt : Schedule → Block → Block
tabled_encrypt s = encrypt (tabled_g s.g) (at s.k)

unfoldable pub tabled_decrypt : Schedule → Block → Block
tabled_decrypt s = decrypt (tabled_g s.g) (at s.k)
