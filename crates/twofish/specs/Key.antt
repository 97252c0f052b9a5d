-- The key schedule for a key of 256 bits (the paper's 4.2 and 4.3, k = 4), over its two permutations q0 and q1.
-- The key m, and a list l of four words, are given by their bytes, the lowest byte of each word first.
use Rattle.std.specs.Prelude.{ℕ, ◌+◌, ◌*◌, ◌/◌, ◌%◌, ◌^◌, cond, List, [], ◌∷◌, ◌++◌, map, eqb}
use Rattle.words.specs.Numbers.{number_low, byte_of}
use Rattle.words.specs.Rotation.{rotate_left}
use Rattle.twofish.specs.Field.{◌⊕◌, product}
use Rattle.words.specs.Table.{at, table}

-- the words of the key with an even number, and those with an odd number: Me and Mo
unfoldable pub evens : List ℕ → List ℕ
evens m = map (at m) (0 ∷ 1 ∷ 2 ∷ 3 ∷ 8 ∷ 9 ∷ 10 ∷ 11 ∷ 16 ∷ 17 ∷ 18 ∷ 19 ∷ 24 ∷ 25 ∷ 26 ∷ 27 ∷ [])

unfoldable pub odds : List ℕ → List ℕ
odds m = map (at m) (4 ∷ 5 ∷ 6 ∷ 7 ∷ 12 ∷ 13 ∷ 14 ∷ 15 ∷ 20 ∷ 21 ∷ 22 ∷ 23 ∷ 28 ∷ 29 ∷ 30 ∷ 31 ∷ [])

abbrev pub RS : List (List ℕ)
RS =
    (0x01 ∷ 0xA4 ∷ 0x55 ∷ 0x87 ∷ 0x5A ∷ 0x58 ∷ 0xDB ∷ 0x9E ∷ [])
    ∷ (0xA4 ∷ 0x56 ∷ 0x82 ∷ 0xF3 ∷ 0x1E ∷ 0xC6 ∷ 0x68 ∷ 0xE5 ∷ [])
    ∷ (0x02 ∷ 0xA1 ∷ 0xFC ∷ 0xC1 ∷ 0x47 ∷ 0xAE ∷ 0x3D ∷ 0x19 ∷ [])
    ∷ (0xA4 ∷ 0x55 ∷ 0x87 ∷ 0x5A ∷ 0x58 ∷ 0xDB ∷ 0x9E ∷ 0x03 ∷ [])
    ∷ []

-- the eight bytes of the key from i on
abbrev pub eight : List ℕ → ℕ → List ℕ
eight m i =
    at m i ∷ at m (i + 1) ∷ at m (i + 2) ∷ at m (i + 3) ∷ at m (i + 4) ∷ at m (i + 5) ∷ at m (i + 6) ∷ at m (i + 7) ∷ []

-- the vector S = (S3, S2, S1, S0)
unfoldable pub box_key : List ℕ → List ℕ
box_key m =
    product 0x14D RS (eight m 24) ++ product 0x14D RS (eight m 16) ++ product 0x14D RS (eight m 8) ++ product 0x14D RS (eight m 0)

abbrev pub MDS : List (List ℕ)
MDS =
    (0x01 ∷ 0xEF ∷ 0x5B ∷ 0x5B ∷ [])
    ∷ (0x5B ∷ 0xEF ∷ 0xEF ∷ 0x01 ∷ [])
    ∷ (0xEF ∷ 0x5B ∷ 0x01 ∷ 0xEF ∷ [])
    ∷ (0xEF ∷ 0x01 ∷ 0xEF ∷ 0x5B ∷ [])
    ∷ []

unfoldable pub mds : ℕ → ℕ → ℕ → ℕ → ℕ
mds y0 y1 y2 y3 = number_low (product 0x169 MDS (y0 ∷ y1 ∷ y2 ∷ y3 ∷ []))

module _ (q0 q1 : ℕ → ℕ) where
  -- the function h of the words l and the word x (4.3.2); byte j of word i of l is at 4 i + j
  unfoldable pub y0 : List ℕ → ℕ → ℕ
  y0 l x = q1 (q0 (q0 (q1 (q1 x ⊕ at l 12) ⊕ at l 8) ⊕ at l 4) ⊕ at l 0)

  unfoldable pub y1 : List ℕ → ℕ → ℕ
  y1 l x = q0 (q0 (q1 (q1 (q0 x ⊕ at l 13) ⊕ at l 9) ⊕ at l 5) ⊕ at l 1)

  unfoldable pub y2 : List ℕ → ℕ → ℕ
  y2 l x = q1 (q1 (q0 (q0 (q0 x ⊕ at l 14) ⊕ at l 10) ⊕ at l 6) ⊕ at l 2)

  unfoldable pub y3 : List ℕ → ℕ → ℕ
  y3 l x = q0 (q1 (q1 (q0 (q1 x ⊕ at l 15) ⊕ at l 11) ⊕ at l 7) ⊕ at l 3)

  unfoldable pub h : List ℕ → ℕ → ℕ
  h l x = mds (y0 l (byte_of 0 x)) (y1 l (byte_of 1 x)) (y2 l (byte_of 2 x)) (y3 l (byte_of 3 x))

  -- the words A and B of pair i, of the even words e and the odd words o (4.3.4); ρ is 0x01010101
  unfoldable pub word_a : List ℕ → ℕ → ℕ
  word_a e i = h e (2 * i * 0x01010101)

  unfoldable pub word_b : List ℕ → ℕ → ℕ
  word_b o i = rotate_left 32 8 (h o ((2 * i + 1) * 0x01010101))

  -- subkey j
  unfoldable pub subkey : List ℕ → List ℕ → ℕ → ℕ
  subkey e o j =
      cond (eqb (j % 2) 0)
      ((word_a e (j / 2) + word_b o (j / 2)) % 2 ^ 32)
      (rotate_left 32 9 ((word_a e (j / 2) + 2 * word_b o (j / 2)) % 2 ^ 32))

  -- the 40 subkeys
  unfoldable pub subkeys : List ℕ → List ℕ
  subkeys m = table 40 (subkey (evens m) (odds m))

  -- the function g (4.2)
  unfoldable pub g : List ℕ → ℕ → ℕ
  g m = h (box_key m)
