-- The judgement is that on the fields, unless two records have the same UUID.
use Prim.Native.Nat.{ℕ}
use mathlib.Core.Path.{◌≡◌, refl, ap}
use mathlib.Core.Bool.{Bool, true, false, cond, ◌&&◌}
use mathlib.Core.List.{List, map}
use Rattle.std.proofs.Common.{Result, Ok, Err}
use Rattle.uuids.specs.Uuids.{uuids_from}
use Rattle.body.specs.Sections.{runs}
use Rattle.body.specs.WellFormed.{uuid_of}
use Rattle.body.specs.Decision.{fields_of, records_in, headers_of, records_of, formed, distinct, is_well_formed, with_counts, not_well_formed, formed_of, judged_of}
use Rattle.body.specs.RecordAt.{record_at}
use Rattle.body.specs.declared.Counts.{Counts}
use Rattle.body.specs.declared.NotWellFormed.{NotWellFormed}
use Rattle.body.proofs.UuidsAhead.{uuids_ahead}

-- the counts, where d too
abbrev pub and_if : Bool → Result Counts NotWellFormed → Result Counts NotWellFormed
and_if d (Ok c) = cond d (Ok c) (Err not_well_formed)
and_if d (Err e) = Err e

pub judged_is : (s : List ℕ) → and_if (distinct (uuids_from s (record_at s 0).next)) (formed_of s) ≡ judged_of s
unfolding formed_of judged_of is_well_formed
judged_is s = by (formed s) refl
  where
    by : (b : Bool) → formed s ≡ b
        → and_if (distinct (uuids_from s (record_at s 0).next)) (cond b (with_counts (headers_of s) (records_of s)) (Err not_well_formed))
        ≡ cond (b && distinct (map uuid_of (records_in (runs (fields_of s))))) (with_counts (headers_of s) (records_of s)) (Err not_well_formed)
    by true e = ap (λ (d : Bool). cond d (with_counts (headers_of s) (records_of s)) (Err not_well_formed)) (ap distinct (uuids_ahead s e))
    by false e = refl
