-- Records on each side of every line of the export, computed: what is refused, in which order, and which row a record has.
use Prim.Native.Nat.{ℕ}
use mathlib.Core.Path.{◌≡◌, refl}
use mathlib.Core.List.{List, [], ◌∷◌, ◌++◌, map}
use lib.ListN.{length, replicate}
use Rattle.std.specs.Prelude.{Option, Some, None, Ok, Err}
use Rattle.words.specs.Members.{to}
use Rattle.text.specs.Decision.{ends_whole, greatest, goes_wrong_of}
use Rattle.fields.specs.Stored.{Stored}
use Rattle.fields.specs.Value.{record_shape, value_of}
use Rattle.words.specs.Numbers.{number_low}
use Rattle.body.specs.Sections.{first_data}
use Rattle.rows.specs.Days.{days_between, days_of}
use Rattle.rows.specs.Fit.{unfit}
use Rattle.logins.specs.Record.{login_of, fault_of}
use Rattle.logins.specs.Export.{checked_from, room_for, or_room}
use Rattle.logins.specs.declared.Fault.{Fault}
use Rattle.logins.specs.declared.ExportRefusal.TheVariants.{Faulty, NoRoom}

abbrev field : ℕ → List ℕ → Stored
field k d = record { kind = k; content = d; fill = [] }

-- UUID, password and title
abbrev plain : List Stored
plain = field 0x01 (to 1 16) ∷ field 0x06 (0x70 ∷ []) ∷ field 0x03 (0x41 ∷ 0x42 ∷ []) ∷ []

abbrev fault_with : List Stored → Option ℕ
fault_with fs = fault_of (fs ++ plain)

-- 80 and 81 bytes, 72 and 73; a zero byte; BadText; an expiry of 0, 3, 4 and 5 bytes
sizes : map fault_with
    ((field 0x03 (replicate 80 0x41) ∷ [])
    ∷ (field 0x03 (replicate 81 0x41) ∷ [])
    ∷ (field 0x04 (replicate 80 0x41) ∷ [])
    ∷ (field 0x04 (replicate 81 0x41) ∷ [])
    ∷ (field 0x02 (replicate 72 0x41) ∷ [])
    ∷ (field 0x02 (replicate 73 0x41) ∷ [])
    ∷ (field 0x04 (0x41 ∷ 0x00 ∷ 0x42 ∷ []) ∷ [])
    ∷ (field 0x04 (0xff ∷ []) ∷ [])
    ∷ (field 0x0a [] ∷ [])
    ∷ (field 0x0a (0 ∷ 0 ∷ 0 ∷ []) ∷ [])
    ∷ (field 0x0a (0 ∷ 0 ∷ 0 ∷ 0 ∷ []) ∷ [])
    ∷ (field 0x0a (0 ∷ 0 ∷ 0 ∷ 0 ∷ 0 ∷ []) ∷ [])
    ∷ [])
    ≡ None ∷ Some 0x03 ∷ None ∷ Some 0x04 ∷ None ∷ Some 0x02 ∷ Some 0x04 ∷ Some 0x04 ∷ None ∷ Some 0x0a ∷ None ∷ Some 0x0a ∷ []
unfolding fault_of unfit value_of record_shape first_data ends_whole greatest goes_wrong_of
sizes = refl

-- a later field does not count, good or bad; of several faults the first in the table's order is told, whatever their order in the record
firsts : map fault_with
    ((field 0x04 [] ∷ field 0x04 (0xff ∷ []) ∷ [])
    ∷ (field 0x04 (0xff ∷ []) ∷ field 0x04 [] ∷ [])
    ∷ (field 0x0a (0 ∷ []) ∷ field 0x02 (0xff ∷ []) ∷ [])
    ∷ (field 0x0a (0 ∷ []) ∷ field 0x02 (0xff ∷ []) ∷ field 0x04 (0xff ∷ []) ∷ [])
    ∷ (field 0x0a (0 ∷ []) ∷ field 0x02 (0xff ∷ []) ∷ field 0x04 (0xff ∷ []) ∷ field 0x03 (0xff ∷ []) ∷ [])
    ∷ [])
    ≡ None ∷ Some 0x04 ∷ Some 0x02 ∷ Some 0x04 ∷ Some 0x03 ∷ []
unfolding fault_of unfit value_of record_shape first_data ends_whole greatest goes_wrong_of
firsts = refl

abbrev second : ℕ → Fault
second k = record { number = 1; kind = k }

-- how many records there are, in an output for two; the first record at fault is told, by its number from 0
records : map (λ us. or_room (checked_from 0 us) (room_for 512 (length us)))
    ([]
    ∷ (plain ∷ plain ∷ [])
    ∷ (plain ∷ (field 0x04 (0xff ∷ []) ∷ plain) ∷ (field 0x03 [] ∷ field 0x02 (0xff ∷ []) ∷ plain) ∷ [])
    ∷ [])
    ≡ Ok 0 ∷ Ok 2 ∷ Err (Faulty (second 0x04)) ∷ []
unfolding checked_from fault_of unfit value_of record_shape first_data ends_whole greatest goes_wrong_of
records = refl

-- no row needs no room; two rows need 512 bytes; a fault is told before a short output
rooms : (map (room_for 0) (0 ∷ 1 ∷ []) ≡ Ok 0 ∷ Err NoRoom ∷ [])
    × (map (λ m. room_for m 2) (511 ∷ 512 ∷ 513 ∷ []) ≡ Err NoRoom ∷ Ok 2 ∷ Ok 2 ∷ [])
    × (map (λ k. or_room k (room_for 0 2)) (Ok tt ∷ Err (second 0x04) ∷ []) ≡ Err NoRoom ∷ Err (Faulty (second 0x04)) ∷ [])
rooms = (refl, refl, refl)

-- the first group, user name and expiry count, absent ones are empty; at 5 seconds past 1970 the expiry is a day and a second ahead
logins : map (login_of 5) (plain ∷ (field 0x02 (0x47 ∷ []) ∷ field 0x0a (0x86 ∷ 0x51 ∷ 0x01 ∷ 0x00 ∷ []) ∷ plain ++ (field 0x04 (0x55 ∷ []) ∷ field 0x04 (0x56 ∷ []) ∷ field 0x0a [] ∷ field 0x02 [] ∷ [])) ∷ [])
    ≡ record { uuid = to 1 16; title = 0x41 ∷ 0x42 ∷ []; user = []; group = []; days = 2147483647 }
    ∷ record { uuid = to 1 16; title = 0x41 ∷ 0x42 ∷ []; user = 0x55 ∷ []; group = 0x47 ∷ []; days = 1 }
    ∷ []
unfolding login_of days_of days_between value_of record_shape first_data number_low
logins = refl
