-- One step of the walk: what stands at a cursor, of a field its type and the length of its data, and the cursor after it; or the end, or a refusal (document 01, "Fields and the
-- well-formed body" and "Numbers of refusal"). It looks at no byte of the data.
use Rattle.std.specs.Prelude.{ℕ, ◌+◌, ◌-◌, ◌%◌, Bool, false, cond, not, ◌||◌, ◌&&◌, List, ltb, eqb, length, get_or, take, drop, Option, None, Some, Result, Ok, Err}
use Rattle.words.specs.Numbers.{number_low}
use Rattle.fields.specs.Stored.{room_of}
use Rattle.fields.specs.declared.Cursor.{Cursor}
use Rattle.fields.specs.declared.Taken.{Taken}
use Rattle.fields.specs.declared.WalkRefusal.{WalkRefusal}
use Rattle.fields.specs.declared.WalkRefusal.TheVariants.{Misplaced, Broken}

-- at a body's start: at place 0, in the header
abbrev pub start : Cursor
start = record { place = 0; in_record = false }

-- what stands at place p of s: the length, the type, the data
abbrev pub len_at : List ℕ → ℕ → ℕ
len_at s p = number_low (take 4 (drop p s))

abbrev pub kind_at : List ℕ → ℕ → ℕ
kind_at s p = get_or s (p + 4) 0

abbrev pub data_at : List ℕ → ℕ → List ℕ
data_at s p = take (len_at s p) (drop (p + 5) s)

-- the next cursor stands after that field, and in a record once an END is passed
abbrev pub passed : ℕ → Bool → ℕ → Cursor
passed p r k = record { place = p; in_record = r || eqb k 0xff }

abbrev pub after : List ℕ → Cursor → Cursor
after s c = passed (c.place + room_of (len_at s c.place)) c.in_record (kind_at s c.place)

-- 11: place no multiple of 16, or past the buffer
abbrev pub misplaced : List ℕ → ℕ → Bool
misplaced s p = not (eqb (p % 16) 0) || ltb (length s) p

-- END with data
abbrev pub end_with_data : ℕ → ℕ → Bool
end_with_data k n = eqb k 0xff && not (eqb n 0)

-- 14: fewer than 16 bytes follow (but not none: the end comes first), or the field with its fill passes the end, or END with data
abbrev pub broken : List ℕ → ℕ → Bool
broken s p = ltb (length s - p) 16 || (ltb (length s - p) (room_of (len_at s p)) || end_with_data (kind_at s p) (len_at s p))

-- what is taken at a cursor
abbrev pub taken_at : List ℕ → Cursor → Taken
taken_at s c = record { kind = kind_at s c.place; len = len_at s c.place; next = after s c }

-- Ok None at the end
unfoldable pub step_of : List ℕ → Cursor → Result (Option Taken) WalkRefusal
step_of s c =
    cond (misplaced s c.place) (Err Misplaced)
    (cond (eqb c.place (length s)) (Ok None)
    (cond (broken s c.place) (Err Broken)
    (Ok (Some (taken_at s c)))))
