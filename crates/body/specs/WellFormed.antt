-- The well-formed body: document 01's sentence, clause by clause, and document 02's clause on UUIDs (Q-7).
use Rattle.std.specs.Prelude.{ℕ, ◌<◌, ◌≤◌, ◌≡◌, List, [], ◌∷◌, ◌++◌, length, get_or}
use Rattle.words.specs.Each.{Each}
use Rattle.words.specs.Members.{to}
use Rattle.fields.specs.Stored.{Stored}
use Rattle.body.specs.Division.{Divides}
use Rattle.body.specs.Sections.{runs, count, first_data}

-- the first field is Version (00), length 2, second byte 03
abbrev pub VersionFirst : List Stored → Type 0
VersionFirst [] = ⊥
VersionFirst (f ∷ fs) = (f.kind ≡ 0x00) × (length f.content ≡ 2) × (get_or f.content 1 0 ≡ 0x03)

-- header types 00 to 0b, 0f, 10 and 13
abbrev pub once_in_header : List ℕ
once_in_header = to 0x00 0x0b ++ (0x0f ∷ 0x10 ∷ 0x13 ∷ [])

-- exactly one field of type k, of a length that fits
pub record One (k : ℕ) (Fits : ℕ → Type 0) (fields : List Stored) : Type 0 where
  pub once : count k fields ≡ 1
  pub size : Each (λ f. f.kind ≡ k → Fits (length f.content)) fields

-- exactly one field of type 01 (UUID), one of 03 (Title) and one of 06 (Password), the first of 16 bytes, the others of at least 1 byte
pub record GoodRecord (fields : List Stored) : Type 0 where
  pub uuid : One 0x01 (λ n. n ≡ 16) fields
  pub title : One 0x03 (λ n. 1 ≤ n) fields
  pub password : One 0x06 (λ n. 1 ≤ n) fields

-- a record's UUID: the data of its field of type 01
abbrev pub uuid_of : List Stored → List ℕ
uuid_of r = first_data 0x01 r

pub record WellFormed (body : List ℕ) : Type 0 where
  pub fields : List Stored
  pub header : List Stored
  pub records : List (List Stored)
  -- it divides exactly into fields
  pub divides : Divides body fields
  -- every END (type ff) has length 0
  pub ends : Each (λ f. f.kind ≡ 0xff → length f.content ≡ 0) fields
  -- the first field is Version
  pub version : VersionFirst fields
  -- the header runs to the first END; after it come zero or more records, each ending at an END, and nothing after the last
  pub sections : runs fields ≡ header ∷ (records ++ ([] ∷ []))
  -- header types 00 to 0b, 0f, 10 and 13 occur at most once, while Empty Groups (11) and all others may repeat
  pub repeats : Each (λ k. count k header ≤ 1) once_in_header
  -- each record has its UUID, Title and Password
  pub mandatory : Each GoodRecord records
  -- of two different records the UUIDs differ (document 02, Q-7)
  pub uuids : (i j : ℕ) → i < j → j < length records → uuid_of (get_or records i []) ≡ uuid_of (get_or records j []) → ⊥
