-- The UUIDs that stand in a body from a place on, and the first of them that an earlier one is the same as (document 02, Q-7). Nothing here speaks of how it is found.
use Rattle.std.specs.Prelude.{ℕ, zero, suc, ◌+◌, ◌<◌, ◌≡◌, Bool, cond, ◌&&◌, List, [], ◌∷◌, ◌++◌, eqb, leb, length, get_or, Option, None, Some}
use Rattle.fields.specs.Stored.{room_of}
use Rattle.fields.specs.Step.{len_at, kind_at, data_at}

-- the field at place p is a UUID: of type 01, with 16 bytes
abbrev pub is_uuid_at : List ℕ → ℕ → Bool
is_uuid_at s p = eqb (kind_at s p) 0x01 && eqb (len_at s p) 16

-- its data, where it is one
abbrev pub uuid_at : List ℕ → ℕ → List (List ℕ)
uuid_at s p = cond (is_uuid_at s p) (data_at s p ∷ []) []

-- the data of those of the fields from place p on that are UUIDs, as far as s divides into fields; at most n fields are looked at
unfoldable pub uuids_among : ℕ → List ℕ → ℕ → List (List ℕ)
uuids_among zero s p = []
uuids_among (suc n) s p = cond (leb (p + room_of (len_at s p)) (length s)) (uuid_at s p ++ uuids_among n s (p + room_of (len_at s p))) []

-- never more than there are bytes
unfoldable pub uuids_from : List ℕ → ℕ → List (List ℕ)
uuids_from s p = uuids_among (length s) s p

-- number i is the same as an earlier one
abbrev pub Again : List (List ℕ) → ℕ → Type 0
Again us i = (j : ℕ) × (j < i) × (get_or us j [] ≡ get_or us i [])

-- of the first n, no two are the same
abbrev pub Apart : List (List ℕ) → ℕ → Type 0
Apart us n = (i j : ℕ) → i < n → j < i → get_or us j [] ≡ get_or us i [] → ⊥

-- number i is the first that an earlier one is the same as; or no two are the same
abbrev pub Repeats : List (List ℕ) → Option ℕ → Type 0
Repeats us (Some i) = (i < length us) × Again us i × Apart us i
Repeats us None = Apart us (length us)
