-- What the code keeps of the section that it is in, the header or a record, and of a record's first fields. Nothing here is to be believed: no contract of a public function mentions it.
use Rattle.std.specs.Prelude.{ℕ, ◌/◌, ◌%◌, ◌^◌, ◌+◌, Bool, true, false, cond, not, ◌&&◌, ◌||◌, Option, Some, None, Result, Ok, Err, List, [], ◌∷◌, eqb, leb}
use Rattle.std.specs.Int.Bits.{bit_or}
use Rattle.words.specs.Members.{among}
use Rattle.body.specs.WellFormed.{once_in_header}
use Rattle.body.specs.Sections.{runs}
use Rattle.body.specs.Decision.{fields_of, exact_from, ends_empty, good_runs, headers_of, records_of, with_counts, not_well_formed}
use Rattle.body.specs.declared.tally.Section.{Section}
use Rattle.body.specs.declared.tally.Tally.{Tally}
use Rattle.body.specs.declared.records.Spot.{Spot}
use Rattle.body.specs.declared.records.Firsts.{Firsts}
use Rattle.body.specs.declared.Counts.{Counts}
use Rattle.body.specs.declared.NotWellFormed.{NotWellFormed}

-- the types that may occur once only, and the lengths that they may have
unfoldable pub once : Bool → List ℕ
once false = once_in_header
once true = 0x01 ∷ 0x03 ∷ 0x06 ∷ []

unfoldable pub length_fits : Bool → ℕ → ℕ → Bool
length_fits false k n = true
length_fits true k n = cond (eqb k 0x01) (eqb n 16) (cond (eqb k 0x03) (leb 1 n) (cond (eqb k 0x06) (leb 1 n) true))

-- a bit for each type
abbrev pub is_marked : ℕ → ℕ → Bool
is_marked seen k = eqb (seen / 2 ^ k % 2) 1

abbrev pub with_mark : ℕ → ℕ → ℕ
with_mark seen k = bit_or seen (2 ^ k)

-- nothing seen yet, of a record or the header; what came before was right or not
abbrev pub empty_section : Bool → Bool → Section
empty_section r b = record { in_record = r; seen = 0; fine = b; used = false }

-- all is right with one field more
abbrev pub still_fine : Section → ℕ → ℕ → Bool
still_fine x k n = x.fine && (length_fits x.in_record k n && not (among k (once x.in_record) && is_marked x.seen k))

-- one field more
abbrev pub noted : Section → ℕ → ℕ → Section
noted x k n =
    record {
      in_record = x.in_record;
      seen = cond (among k (once x.in_record)) (with_mark x.seen k) x.seen;
      fine = still_fine x k n;
      used = true;
    }

-- the section may end here
abbrev pub passes : Section → Bool
passes x = x.fine && (not x.in_record || (is_marked x.seen 1 && (is_marked x.seen 3 && is_marked x.seen 6)))

-- a field of type k and length n: an END ends the section, and a record follows
abbrev pub stepped : Section → ℕ → ℕ → Section
stepped x k n = cond (eqb k 0xff) (empty_section true (passes x)) (noted x k n)

-- 1 for a header field, 1 for the END of a record
abbrev pub header_field : Bool → ℕ → ℕ
header_field r k = cond r 0 (cond (eqb k 0xff) 0 1)

abbrev pub record_end : Bool → ℕ → ℕ
record_end r k = cond r (cond (eqb k 0xff) 1 0) 0

-- at a body's start, and with one field more
abbrev pub start : Tally
start = record { section = empty_section false true; counts = record { headers = 0; records = 0 } }

abbrev pub tallied : Tally → ℕ → ℕ → Tally
tallied x k n =
    record {
      section = stepped x.section k n;
      counts = record {
        headers = x.counts.headers + header_field x.section.in_record k;
        records = x.counts.records + record_end x.section.in_record k;
      };
    }

-- the counts, where all is right and nothing follows the last END
abbrev pub finished : Tally → Result Counts NotWellFormed
finished x = cond (x.section.in_record && (x.section.fine && not x.section.used)) (Ok x.counts) (Err not_well_formed)

-- all but Version
unfoldable pub sections_of : List ℕ → Result Counts NotWellFormed
sections_of s =
    cond (exact_from s 0 && (ends_empty (fields_of s) && good_runs false (runs (fields_of s)))) (with_counts (headers_of s) (records_of s)) (Err not_well_formed)

-- what was found, or else the data at p where their field is of type k
abbrev pub or_if : Option Spot → ℕ → ℕ → Spot → Option Spot
or_if (Some x) k kind p = Some x
or_if None k kind p = cond (eqb kind k) (Some p) None

-- one field more, with its data at p
abbrev pub firsts_with : Firsts → ℕ → Spot → Firsts
firsts_with x kind p =
    record {
      uuid = or_if x.uuid 0x01 kind p;
      group = or_if x.group 0x02 kind p;
      title = or_if x.title 0x03 kind p;
      user = or_if x.user 0x04 kind p;
      expiry = or_if x.expiry 0x0a kind p;
    }
