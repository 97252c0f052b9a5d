-- A body divides exactly into fields (document 01, "Fields and the well-formed body").
use Rattle.std.specs.Prelude.{ℕ, ◌^◌, ◌<◌, ◌≡◌, List, [], ◌∷◌, ◌++◌, length}
use Rattle.words.specs.Each.{Each}
use Rattle.words.specs.Numbers.{Bytes}
use Rattle.fields.specs.Stored.{Stored, bytes_of, room_of}

-- a field as a body can hold it: type and data are bytes, the length fits its 4 bytes, and with its fill the field takes the smallest whole
-- number of blocks that holds 5 + length bytes; the fill may be any bytes
pub record Whole (f : Stored) : Type 0 where
  pub kind : f.kind < 256
  pub content : Bytes f.content
  pub short : length f.content < 2 ^ 32
  pub fill : Bytes f.fill
  pub blocks : length (bytes_of f) ≡ room_of (length f.content)

-- the bytes of the fields, one after the other
abbrev pub joined : List Stored → List ℕ
joined [] = []
joined (f ∷ fs) = bytes_of f ++ joined fs

pub record Divides (body : List ℕ) (fields : List Stored) : Type 0 where
  pub whole : Each Whole fields
  pub parts : body ≡ joined fields
