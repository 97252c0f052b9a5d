-- Small bodies on each side of document 01's clauses: of one the description is written out; the others by the decision, which is computed. And find, and what the HMAC covers.
use Rattle.std.proofs.Common.{Option, Some, None, Result, Ok, Err}
use Prim.Native.Nat.{ℕ}
use mathlib.Core.Path.{◌≡◌, refl, sym, ap, ◌∙◌}
use mathlib.Core.Bool.{Bool, true, false, false≢true}
use mathlib.Core.List.{List, [], ◌∷◌, ◌++◌, map}
use native.Mathlib.Omega.{arith}
use lib.Dec.{ltb}
use lib.ListN.{length, get_or, drop, replicate}
use borrow.Author.Tests.{ltb-true}
use Rattle.words.specs.Each.{Each}
use Rattle.words.specs.Members.{to}
use Rattle.words.specs.Numbers.{number_low, bytes_low, Bytes, none, more}
use Rattle.words.specs.Slices.{same}
use Rattle.fields.specs.Stored.{Stored, stored, fill_of}
use Rattle.body.specs.Division.{Whole, joined}
use Rattle.body.specs.Sections.{runs, first_data}
use Rattle.body.specs.WellFormed.{WellFormed}
use Rattle.body.specs.Decision.{divided, walkable, good_header, good_record, good_runs, formed, distinct, is_well_formed, covered_of, with_counts, not_well_formed, judged_of}
use Rattle.body.specs.Find.{at_place, is_uuid, first_with, visited_in, find_of}
use Rattle.body.specs.declared.Counts.{Counts}
use Rattle.body.specs.declared.NotWellFormed.{NotWellFormed}
use Rattle.body.specs.declared.Place.{Place}
use Rattle.body.specs.declared.Found.{Found}
use Rattle.body.proofs.Decided.{decides}

-- ==== Version and END alone, with some fill: the description, written out
abbrev pub least : List ℕ
least =
    0x02 ∷ 0x00 ∷ 0x00 ∷ 0x00 ∷ 0x00 ∷ 0x0e ∷ 0x03 ∷ 0x01 ∷ 0x02 ∷ 0x03 ∷ 0x04 ∷ 0x05 ∷ 0x06 ∷ 0x07 ∷ 0x08 ∷ 0x09
    ∷ 0x00 ∷ 0x00 ∷ 0x00 ∷ 0x00 ∷ 0xff ∷ 0x0a ∷ 0x0b ∷ 0x0c ∷ 0x0d ∷ 0x0e ∷ 0x0f ∷ 0x10 ∷ 0x11 ∷ 0x12 ∷ 0x13 ∷ 0x14 ∷ []

abbrev first : Stored
first = stored 0x00 (0x0e ∷ 0x03 ∷ []) (to 0x01 0x09)

abbrev last : Stored
last = stored 0xff [] (to 0x0a 0x14)

bytes : (s : List ℕ) → map (λ b. ltb b 256) s ≡ map (λ b. true) s → Bytes s
bytes [] h = none
bytes (b ∷ s) h = more (ltb-true b 256 (ap (λ (l : List Bool). get_or l 0 true) h)) (bytes s (ap (λ (l : List Bool). drop 1 l) h))

whole_first : Whole first
unfolding bytes_low
whole_first = record { kind = omega arith; content = bytes first.content refl; short = omega arith; fill = bytes first.fill refl; blocks = refl }

whole_last : Whole last
unfolding bytes_low
whole_last = record { kind = omega arith; content = none; short = omega arith; fill = bytes last.fill refl; blocks = refl }

pub least_bytes : Bytes least
least_bytes = bytes least refl

pub least_is : WellFormed least
unfolding bytes_low runs
least_is =
    record {
      fields = first ∷ last ∷ [];
      header = first ∷ [];
      records = [];
      divides = record { whole = (whole_first, (whole_last, tt)); parts = refl };
      ends = omega arith;
      version = (refl, refl, refl);
      sections = refl;
      repeats = omega arith;
      mandatory = tt;
      uuids = λ i j h l e. absurd (omega arith);
    }

-- ==== Others. A field with its fill, of zeros; Version; END; a UUID; a record
abbrev field : ℕ → List ℕ → Stored
field k d = stored k d (replicate (fill_of (length d)) 0x00)

abbrev version : Stored
version = field 0x00 (0x0e ∷ 0x03 ∷ [])

abbrev end : Stored
end = field 0xff []

abbrev title : Stored
title = field 0x03 (0x41 ∷ [])

abbrev password : Stored
password = field 0x06 (0x42 ∷ [])

abbrev uuid : ℕ → Stored
uuid b = field 0x01 (b ∷ replicate 15 0x00)

-- (the body, the answer by document 01)
abbrev pub bodies : List (List ℕ × Result Counts NotWellFormed)
bodies =
    (least, with_counts 1 0)
    -- the first byte of Version may be any
    ∷ (joined (field 0x00 (0xff ∷ 0x03 ∷ []) ∷ end ∷ []), with_counts 1 0)
    -- Empty Groups (11) and all other types may repeat; unknown types and unexpected lengths are kept
    ∷ (joined (version ∷ field 0x11 (0x41 ∷ []) ∷ field 0x11 (0x42 ∷ []) ∷ end ∷ []), with_counts 3 0)
    ∷ (joined (version ∷ field 0x0c [] ∷ field 0x0c [] ∷ field 0x12 [] ∷ field 0x12 [] ∷ field 0xfe [] ∷ field 0xfe [] ∷ end ∷ []), with_counts 7 0)
    ∷ (joined (version ∷ field 0x01 (0x01 ∷ []) ∷ field 0x04 (replicate 8 0x31) ∷ end ∷ []), with_counts 3 0)
    -- records, in any order of fields
    ∷ (joined (version ∷ end ∷ uuid 0x01 ∷ title ∷ password ∷ end ∷ []), with_counts 1 1)
    ∷ (joined (version ∷ end ∷ field 0x00 [] ∷ password ∷ field 0x02 [] ∷ title ∷ field 0x02 [] ∷ uuid 0x01 ∷ field 0x15 (0x01 ∷ 0x02 ∷ []) ∷ end ∷ []), with_counts 1 1)
    -- UUIDs that differ in their first byte only; in their last; the header's is no record's
    ∷ (joined (version ∷ end ∷ uuid 0x01 ∷ title ∷ password ∷ end ∷ uuid 0x02 ∷ title ∷ password ∷ end ∷ []), with_counts 1 2)
    ∷ (joined (version ∷ end ∷ field 0x01 (replicate 16 0x00) ∷ title ∷ password ∷ end ∷ title ∷ password ∷ field 0x01 (replicate 15 0x00 ++ (0x01 ∷ [])) ∷ end ∷ []), with_counts 1 2)
    ∷ (joined (version ∷ uuid 0x01 ∷ end ∷ uuid 0x01 ∷ title ∷ password ∷ end ∷ []), with_counts 2 1)
    ∷ []

-- bodies that are not well formed
abbrev pub others : List (List ℕ)
others =
    -- it divides exactly into fields: nothing; a byte more; a field length of 4,294,967,295, of 4,294,967,291
    []
    ∷ (least ++ (0x00 ∷ []))
    ∷ (0xff ∷ 0xff ∷ 0xff ∷ 0xff ∷ 0x00 ∷ 0x0e ∷ 0x03 ∷ replicate 25 0x00)
    ∷ (joined (version ∷ end ∷ []) ++ (0xfb ∷ 0xff ∷ 0xff ∷ 0xff ∷ 0xff ∷ replicate 11 0x00))
    -- every END has length 0
    ∷ joined (version ∷ field 0xff (0x00 ∷ []) ∷ [])
    -- the first field is Version, length 2, second byte 03
    ∷ joined (end ∷ [])
    ∷ joined (field 0x02 [] ∷ version ∷ end ∷ [])
    ∷ joined (field 0x00 (0x0e ∷ 0x03 ∷ 0x00 ∷ []) ∷ end ∷ [])
    ∷ joined (field 0x00 (0x03 ∷ []) ∷ end ∷ [])
    ∷ joined (field 0x00 (0x0e ∷ 0x04 ∷ []) ∷ end ∷ [])
    -- the header runs to an END; after the last END nothing
    ∷ joined (version ∷ [])
    ∷ joined (version ∷ end ∷ field 0x02 [] ∷ [])
    ∷ joined (version ∷ end ∷ uuid 0x01 ∷ title ∷ password ∷ [])
    -- header types 00, 0b, 0f, 10 and 13 occur at most once
    ∷ joined (version ∷ version ∷ end ∷ [])
    ∷ joined (version ∷ field 0x0b [] ∷ field 0x0b [] ∷ end ∷ [])
    ∷ joined (version ∷ field 0x0f [] ∷ field 0x0f [] ∷ end ∷ [])
    ∷ joined (version ∷ field 0x10 [] ∷ field 0x10 [] ∷ end ∷ [])
    ∷ joined (version ∷ field 0x13 [] ∷ field 0x02 [] ∷ field 0x13 [] ∷ end ∷ [])
    -- each record has exactly one UUID, Title and Password, of 16, of at least 1 and of at least 1 byte
    ∷ joined (version ∷ end ∷ end ∷ [])
    ∷ joined (version ∷ end ∷ uuid 0x01 ∷ password ∷ end ∷ [])
    ∷ joined (version ∷ end ∷ uuid 0x01 ∷ title ∷ end ∷ [])
    ∷ joined (version ∷ end ∷ title ∷ password ∷ end ∷ [])
    ∷ joined (version ∷ end ∷ uuid 0x01 ∷ title ∷ title ∷ password ∷ end ∷ [])
    ∷ joined (version ∷ end ∷ uuid 0x01 ∷ uuid 0x02 ∷ title ∷ password ∷ end ∷ [])
    ∷ joined (version ∷ end ∷ field 0x01 (replicate 15 0x00) ∷ title ∷ password ∷ end ∷ [])
    ∷ joined (version ∷ end ∷ uuid 0x01 ∷ field 0x03 [] ∷ password ∷ end ∷ [])
    ∷ joined (version ∷ end ∷ uuid 0x01 ∷ title ∷ field 0x06 [] ∷ end ∷ [])
    -- of two different records the UUIDs differ: neighbours; the first and the last of three; at other places in their records
    ∷ joined (version ∷ end ∷ uuid 0x01 ∷ title ∷ password ∷ end ∷ uuid 0x01 ∷ title ∷ password ∷ end ∷ [])
    ∷ joined (version ∷ end ∷ uuid 0x01 ∷ title ∷ password ∷ end ∷ uuid 0x02 ∷ title ∷ password ∷ end ∷ uuid 0x01 ∷ title ∷ password ∷ end ∷ [])
    ∷ joined (version ∷ end ∷ uuid 0x01 ∷ title ∷ password ∷ end ∷ title ∷ password ∷ uuid 0x01 ∷ end ∷ [])
    ∷ []

-- three records: UUIDs 01, 02 and 04; the header has 03, which no record has
abbrev three : List ℕ
three =
    joined (version ∷ uuid 0x03 ∷ end ∷ title ∷ uuid 0x01 ∷ password ∷ end ∷ uuid 0x02 ∷ title ∷ password ∷ end ∷ uuid 0x04 ∷ title ∷ password ∷ end ∷ [])

abbrev found : Result (Option Place) NotWellFormed → ℕ → Found
found x v = record { sought = x; visited = v }

-- what is found, and how many fields are visited: up to the UUID, which is the first, a middle or the last field of its record; up to the last END; none of a body that is not well formed, where the fault is
-- behind the UUID, or that the UUID is there twice
abbrev pub finds : List (Found × Found)
finds =
    (find_of three 0x02 0, found (Ok (Some (at_place 1 144))) 8)
    ∷ (find_of three 0x01 0, found (Ok (Some (at_place 0 64))) 5)
    ∷ (find_of three 0x03 0, found (Ok None) 15)
    ∷ (find_of (joined (version ∷ end ∷ title ∷ password ∷ uuid 0x01 ∷ end ∷ [])) 0x01 0, found (Ok (Some (at_place 0 32))) 5)
    ∷ (find_of least 0x01 0, found (Ok None) 2)
    ∷ (find_of (least ++ least) 0x01 0, found (Err not_well_formed) 0)
    ∷ (find_of (joined (version ∷ end ∷ uuid 0x01 ∷ title ∷ password ∷ end ∷ end ∷ [])) 0x01 0, found (Err not_well_formed) 0)
    ∷ (find_of (joined (version ∷ end ∷ uuid 0x01 ∷ title ∷ password ∷ end ∷ uuid 0x01 ∷ title ∷ password ∷ end ∷ [])) 0x01 0, found (Err not_well_formed) 0)
    ∷ (find_of (joined (version ∷ uuid 0x01 ∷ end ∷ uuid 0x01 ∷ title ∷ password ∷ end ∷ [])) 0x01 0, found (Ok (Some (at_place 0 64))) 4)
    ∷ []

-- the data bytes of all fields in order
abbrev pub covers : List (List ℕ × List ℕ)
covers =
    (covered_of least, 0x0e ∷ 0x03 ∷ [])
    ∷ (covered_of (joined (version ∷ end ∷ uuid 0x01 ∷ title ∷ password ∷ end ∷ [])), 0x0e ∷ 0x03 ∷ 0x01 ∷ (replicate 15 0x00 ++ (0x41 ∷ 0x42 ∷ [])))
    ∷ []

pub cases : (map (λ c. judged_of c.0) bodies ≡ map (λ c. c.1) bodies)
    × (map judged_of others ≡ map (λ s. Err not_well_formed) others)
    × (map (λ c. c.0) finds ≡ map (λ c. c.1) finds)
    × (map (λ c. c.0) covers ≡ map (λ c. c.1) covers)
unfolding number_low bytes_low runs first_data divided walkable good_header good_record good_runs same distinct formed is_well_formed judged_of is_uuid first_with visited_in find_of
cases = (refl, refl, refl, refl)

none_are : (ss : List (List ℕ)) → map is_well_formed ss ≡ map (λ s. false) ss → Each (λ s. WellFormed s → ⊥) ss
none_are [] e = tt
none_are (s ∷ ss) e = (
  λ w. false≢true (sym (ap (λ (l : List Bool). get_or l 0 false) e) ∙ decides s w),
  none_are ss (ap (λ (l : List Bool). drop 1 l) e),
)

pub others_are_not : Each (λ s. WellFormed s → ⊥) others
unfolding number_low bytes_low runs first_data divided good_header good_record good_runs same distinct formed is_well_formed
others_are_not = none_are others refl
