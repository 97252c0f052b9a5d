-- Find: the record with the UUID, by its number from 0 and the place of its first field; none; or 9. And how many fields it visits (document 02, Q-10). In a well-formed body the first match is the only one (Q-7).
use Rattle.std.specs.Prelude.{ℕ, ◌+◌, ◌<◌, ◌≡◌, Bool, true, false, cond, ◌&&◌, ◌||◌, Option, Some, None, Result, Ok, Err, List, [], ◌∷◌, ◌++◌, eqb, length, get_or, take, drop}
use Rattle.words.specs.Each.{Each}
use Rattle.words.specs.Numbers.{number_low}
use Rattle.fields.specs.Stored.{Stored}
use Rattle.fields.specs.Value.{value_of}
use Rattle.fields.specs.Walk.{walk_of}
use Rattle.fields.specs.declared.Cursor.{Cursor}
use Rattle.body.specs.Division.{joined}
use Rattle.body.specs.Sections.{is_end, runs}
use Rattle.body.specs.WellFormed.{WellFormed, uuid_of}
use Rattle.body.specs.Decision.{fields_of, is_well_formed, header_in, records_in, not_well_formed}
use Rattle.body.specs.declared.NotWellFormed.{NotWellFormed}
use Rattle.body.specs.declared.Place.{Place}
use Rattle.body.specs.declared.Found.{Found}

-- the data are the 16 bytes of the UUID of halves a and b: bytes 0 to 7 and bytes 8 to 15
unfoldable pub is_uuid : List ℕ → ℕ → ℕ → Bool
is_uuid d a b = eqb (length d) 16 && (eqb (number_low (take 8 d)) a && eqb (number_low (take 8 (drop 8 d))) b)

-- a record has the UUID when its first field of type 01 has these 16 bytes
abbrev pub has : ℕ → ℕ → List Stored → Bool
has a b r = is_uuid (uuid_of r) a b

-- record n, of which the first field stands at place p
abbrev pub at_place : ℕ → ℕ → Place
at_place n p = record { number = n; place = p }

-- among records of which the first is number n and starts at place p; each takes its fields' bytes and those of its END
unfoldable pub first_with : ℕ → ℕ → ℕ → ℕ → List (List Stored) → Option Place
first_with a b n p [] = None
first_with a b n p (r ∷ rs) = cond (has a b r) (Some (at_place n p)) (first_with a b (n + 1) (p + length (joined r) + 16) rs)

abbrev pub sought_in : ℕ → ℕ → List (List Stored) → Option Place
sought_in a b us = first_with a b 0 (length (joined (header_in us)) + 16) (records_in us)

-- a field of type k with the data d is the matching UUID; r: it is in a record, and not in the header
abbrev pub is_match : ℕ → ℕ → Bool → ℕ → List ℕ → Bool
is_match a b r k d = r && (eqb k 0x01 && is_uuid d a b)

-- of the fields of a body those up to the deciding one, it included: the matching UUID, or, where there is none, the last of all, which is an END; r: the first is in a record
unfoldable pub visited_in : ℕ → ℕ → Bool → List Stored → List Stored
visited_in a b r [] = []
visited_in a b r (f ∷ fs) = f ∷ cond (is_match a b r f.kind f.content) [] (visited_in a b (r || is_end f) fs)

unfoldable pub find_of : List ℕ → ℕ → ℕ → Found
find_of s a b =
    record {
      sought = cond (is_well_formed s) (Ok (sought_in a b (runs (fields_of s)))) (Err not_well_formed);
      visited = cond (is_well_formed s) (length (visited_in a b false (fields_of s))) 0;
    }

-- the number of an answer, 0 where nothing is refused, and its values
abbrev pub find_number : Result (Option Place) NotWellFormed → ℕ
find_number (Ok o) = 0
find_number (Err e) = 9

abbrev pub find_values : Result (Option Place) NotWellFormed → List ℕ
find_values (Ok (Some x)) = x.number ∷ x.place ∷ []
find_values (Ok None) = []
find_values (Err e) = []

-- ==== What an answer says, of a UUID of 16 bytes
-- the place behind some sections and their ENDs, which take a block each
abbrev pub place_behind : List (List Stored) → ℕ
place_behind [] = 0
place_behind (u ∷ us) = length (joined u) + 16 + place_behind us

-- a record's field of type 01 has the bytes uuid as its data; there is one such field
abbrev pub HasUuid : List ℕ → List Stored → Type 0
HasUuid uuid r = uuid_of r ≡ uuid

-- the body is well formed, and its record of number n, at place p, is the only one that has the UUID
pub record FoundAt (body uuid : List ℕ) (n p : ℕ) : Type 0 where
  pub well_formed : WellFormed body
  -- the record, those before it and those after it
  pub before : List (List Stored)
  pub found : List Stored
  pub others : List (List Stored)
  pub records : well_formed.records ≡ before ++ (found ∷ others)
  pub number : n ≡ length before
  pub has_it : HasUuid uuid found
  pub only : (i : ℕ) → i < length well_formed.records → HasUuid uuid (get_or well_formed.records i []) → i ≡ n
  -- p is the place of its first field, and there the walk, in a record, takes this field
  pub place : p ≡ place_behind (well_formed.header ∷ before)
  pub field : Stored
  pub rest : List Stored
  pub fields : found ≡ field ∷ rest
  pub next : Cursor
  pub taken : walk_of body (record { place = p; in_record = true })
      ≡ Ok (Some (record { kind = field.kind; place = p; len = length field.content; value = value_of true field.kind field.content }, next))

-- what each answer says
abbrev pub Says : List ℕ → List ℕ → Result (Option Place) NotWellFormed → Type 0
Says body uuid (Ok (Some x)) = FoundAt body uuid x.number x.place
Says body uuid (Ok None) = (w : WellFormed body) × Each (λ r. HasUuid uuid r → ⊥) w.records
Says body uuid (Err e) = WellFormed body → ⊥
