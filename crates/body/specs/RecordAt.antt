-- One record, at a place of any bytes: of the fields that the walk takes from there on, those before the first END. At place 0 of a body it is the header.
use Rattle.std.specs.Prelude.{ℕ, ◌+◌, cond, Option, Some, None, List, [], ◌∷◌, eqb, length, take, drop}
use Rattle.fields.specs.Stored.{Stored, room_of}
use Rattle.body.specs.Sections.{is_end}
use Rattle.body.specs.Decision.{taken_from}
use Rattle.body.specs.declared.records.Spot.{Spot}
use Rattle.body.specs.declared.records.Firsts.{Firsts}
use Rattle.body.specs.declared.records.Record.{Record}

-- the fields before the first END, all where there is none
unfoldable pub before_end : List Stored → List Stored
before_end [] = []
before_end (f ∷ fs) = cond (is_end f) [] (f ∷ before_end fs)

-- the place behind the first END, or behind all where there is none; q: the place of the first field
unfoldable pub behind_end : ℕ → List Stored → ℕ
behind_end q [] = q
behind_end q (f ∷ fs) =
    cond (is_end f) (q + room_of (length f.content)) (behind_end (q + room_of (length f.content)) fs)

-- the data at place p, so many
abbrev pub spot : ℕ → ℕ → Spot
spot p n = record { place = p; len = n }

-- where the data of the first field of type k stand, and their length
unfoldable pub spot_of : ℕ → ℕ → List Stored → Option Spot
spot_of k q [] = None
spot_of k q (f ∷ fs) = cond (eqb f.kind k) (Some (spot (q + 5) (length f.content))) (spot_of k (q + room_of (length f.content)) fs)

unfoldable pub firsts_of : ℕ → List Stored → Firsts
firsts_of q u =
    record {
      uuid = spot_of 0x01 q u;
      group = spot_of 0x02 q u;
      title = spot_of 0x03 q u;
      user = spot_of 0x04 q u;
      expiry = spot_of 0x0a q u;
    }

abbrev pub record_of : ℕ → List Stored → Record
record_of q fs = record { next = behind_end q fs; fields = length (before_end fs); firsts = firsts_of q (before_end fs) }

-- the next place, the number of fields and the first ones of some types
unfoldable pub record_at : List ℕ → ℕ → Record
record_at s p = record_of p (taken_from s p)

-- what stands at a spot of s, as far as s goes; nothing where the field is absent
abbrev pub content_at : List ℕ → Option Spot → List ℕ
content_at s (Some x) = take x.len (drop x.place s)
content_at s None = []
