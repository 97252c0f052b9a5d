-- The well-formed body (WellFormed.antt) as functions of the bytes: the fields of a body, whether it is well formed, what its HMAC covers, its counts. That `is_well_formed` holds exactly
-- of the well-formed bodies, and the rest exactly of their fields, is shown in proofs/Decided.antt.
use Rattle.std.specs.Prelude.{ℕ, zero, suc, ◌+◌, ◌-◌, ◌%◌, Bool, true, false, cond, not, ◌&&◌, Result, Ok, Err, List, [], ◌∷◌, map, leb, eqb, length, get_or, take, drop}
use Rattle.words.specs.Each.{all_in}
use Rattle.words.specs.Slices.{same}
use Rattle.fields.specs.Stored.{Stored, room_of, fill_of}
use Rattle.fields.specs.Step.{len_at, kind_at, data_at, end_with_data}
use Rattle.body.specs.Division.{joined}
use Rattle.body.specs.Sections.{runs, count, covered}
use Rattle.body.specs.WellFormed.{once_in_header, uuid_of}
use Rattle.body.specs.declared.Counts.{Counts}
use Rattle.body.specs.declared.NotWellFormed.{NotWellFormed}

-- the field at place p of s, where its blocks are within s
abbrev pub stored_at : List ℕ → ℕ → Stored
stored_at s p =
    record {
      kind = kind_at s p;
      content = data_at s p;
      fill = take (fill_of (len_at s p)) (drop (p + (5 + len_at s p)) s);
    }

abbrev pub fits : List ℕ → ℕ → Bool
fits s p = leb (p + room_of (len_at s p)) (length s)

-- at most n fields from place p on, as far as s divides into fields
unfoldable pub divided : ℕ → List ℕ → ℕ → List Stored
divided zero s p = []
divided (suc n) s p = cond (fits s p) (stored_at s p ∷ divided n s (p + room_of (len_at s p))) []

-- the fields from place p on: never more than there are bytes
abbrev pub fields_from : List ℕ → ℕ → List Stored
fields_from s p = divided (length s) s p

abbrev pub fields_of : List ℕ → List Stored
fields_of s = fields_from s 0

-- those before the first END with data, which the walk does not take
unfoldable pub walkable : List Stored → List Stored
walkable [] = []
walkable (f ∷ fs) = cond (end_with_data f.kind (length f.content)) [] (f ∷ walkable fs)

-- the fields that the walk takes from place p on: none where p is no multiple of 16
abbrev pub taken_from : List ℕ → ℕ → List Stored
taken_from s p = cond (eqb (p % 16) 0) (walkable (fields_from s p)) []

-- from place p on the fields reach the end of s
abbrev pub exact_from : List ℕ → ℕ → Bool
exact_from s p = eqb (p + length (joined (fields_from s p))) (length s)

abbrev pub ends_empty : List Stored → Bool
ends_empty fs = all_in (λ f. not (end_with_data f.kind (length f.content))) fs

abbrev pub version_first : List Stored → Bool
version_first [] = false
version_first (f ∷ fs) = eqb f.kind 0x00 && (eqb (length f.content) 2 && eqb (get_or f.content 1 0) 0x03)

abbrev pub one : ℕ → (ℕ → Bool) → List Stored → Bool
one k size fs = eqb (count k fs) 1 && all_in (λ f. cond (eqb f.kind k) (size (length f.content)) true) fs

unfoldable pub good_header : List Stored → Bool
good_header fs = all_in (λ k. leb (count k fs) 1) once_in_header

unfoldable pub good_record : List Stored → Bool
good_record fs = one 0x01 (λ n. eqb n 16) fs && (one 0x03 (λ n. leb 1 n) fs && one 0x06 (λ n. leb 1 n) fs)

abbrev pub none : List Stored → Bool
none [] = true
none (f ∷ fs) = false

-- every run but the last is good, the first as the header unless r, the others as records; the last is empty, and not the first
unfoldable pub good_runs : Bool → List (List Stored) → Bool
good_runs r [] = false
good_runs r (u ∷ []) = r && none u
good_runs r (u ∷ v ∷ us) = cond r (good_record u) (good_header u) && good_runs true (v ∷ us)

-- all clauses but that on the UUIDs of different records
unfoldable pub formed : List ℕ → Bool
formed s = exact_from s 0 && (ends_empty (fields_of s) && (version_first (fields_of s) && good_runs false (runs (fields_of s))))

-- the first run, and the runs between the first and the last
abbrev pub header_in : List (List Stored) → List Stored
header_in [] = []
header_in (u ∷ us) = u

abbrev pub records_in : List (List Stored) → List (List Stored)
records_in [] = []
records_in (u ∷ us) = take (length us - 1) us

-- no two are the same
unfoldable pub distinct : List (List ℕ) → Bool
distinct [] = true
distinct (u ∷ us) = all_in (λ v. not (same u v)) us && distinct us

unfoldable pub is_well_formed : List ℕ → Bool
is_well_formed s = formed s && distinct (map uuid_of (records_in (runs (fields_of s))))

-- header fields and records; ENDs are not counted
abbrev pub headers_of : List ℕ → ℕ
headers_of s = length (header_in (runs (fields_of s)))

abbrev pub records_of : List ℕ → ℕ
records_of s = length (records_in (runs (fields_of s)))

-- the data of the fields that the walk takes; of a well-formed body these are all its fields
abbrev pub covered_of : List ℕ → List ℕ
covered_of s = covered (taken_from s 0)

-- the answer with these counts, and the refusal
abbrev pub with_counts : ℕ → ℕ → Result Counts NotWellFormed
with_counts h r = Ok (record { headers = h; records = r })

abbrev pub not_well_formed : NotWellFormed
not_well_formed = record {}

-- the counts, or none where a clause other than that on the UUIDs fails
unfoldable pub formed_of : List ℕ → Result Counts NotWellFormed
formed_of s = cond (formed s) (with_counts (headers_of s) (records_of s)) (Err not_well_formed)

-- the counts, or 9
unfoldable pub judged_of : List ℕ → Result Counts NotWellFormed
judged_of s = cond (is_well_formed s) (with_counts (headers_of s) (records_of s)) (Err not_well_formed)

-- the number of an answer, 0 where nothing is refused, and its values
abbrev pub judge_number : Result Counts NotWellFormed → ℕ
judge_number (Ok c) = 0
judge_number (Err e) = 9

abbrev pub judge_values : Result Counts NotWellFormed → List ℕ
judge_values (Ok c) = c.headers ∷ c.records ∷ []
judge_values (Err e) = []
