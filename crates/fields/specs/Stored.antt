-- A field as it is stored (document 01, "Fields and the well-formed body"): length (4 bytes, little-endian), type (1), data, then fill to the next boundary.
use Rattle.std.specs.Prelude.{ℕ, ◌+◌, ◌-◌, ◌*◌, ◌/◌, List, ◌∷◌, ◌++◌, length}
use Rattle.words.specs.Numbers.{bytes_low}

pub record Stored : Type 0 where
  pub kind : ℕ
  pub content : List ℕ
  pub fill : List ℕ

abbrev pub stored : ℕ → List ℕ → List ℕ → Stored
stored k d f = record { kind = k; content = d; fill = f }

abbrev pub bytes_of : Stored → List ℕ
bytes_of f = bytes_low 4 (length f.content) ++ (f.kind ∷ (f.content ++ f.fill))

-- the smallest number of blocks of 16 bytes that holds 5 + n bytes
abbrev pub blocks_of : ℕ → ℕ
blocks_of n = (5 + n + 15) / 16

-- the bytes that a field with n bytes of data takes, and those of them that are fill
abbrev pub room_of : ℕ → ℕ
room_of n = 16 * blocks_of n

abbrev pub fill_of : ℕ → ℕ
fill_of n = room_of n - (5 + n)
