-- talc_walk: its answer is nine numbers.
use Rattle.std.specs.Prelude.{ℕ, ◌^◌, ◌<◌, ◌≡◌, Bool, cond, List, length, take, drop, Some, Ok}
use Rattle.words.specs.Numbers.{number_low}
use Rattle.fields.specs.Value.{header_shape, record_shape}
use Rattle.fields.specs.Stamp.{OldStamp}
use Rattle.fields.specs.Step.{data_at, step_of}
use Rattle.fields.specs.Walk.{walk_of, walk_number, walk_numbers}
use Rattle.fields.specs.declared.Cursor.{Cursor}
use Rattle.fields.specs.declared.value.Shape.TheVariants as Shape
use Rattle.talcfeather.specs.Numbers.{in_bytes}

-- r: in a record, not in the header
abbrev pub cursor : ℕ → Bool → Cursor
cursor place r = record { place = place; in_record = r }

pub record TalcWalk (body : List ℕ) (place : ℕ) (r : Bool) (number : ℕ) (answer : List ℕ) : Type 0 where
  pub short : length body < 2 ^ 64
  pub is_number : number ≡ walk_number (walk_of body (cursor place r))
  pub is_answer : answer ≡ in_bytes (walk_numbers (walk_of body (cursor place r)))

-- ---- What an answer says of a field (document 02, Q-5 and Q-2)
-- at that place the walk takes a field of type k, with the data d
pub record FieldAt (body : List ℕ) (place : ℕ) (r : Bool) (k : ℕ) (d : List ℕ) : Type 0 where
  pub next : Cursor
  pub taken : step_of body (cursor place r) ≡ Ok (Some (record { kind = k; len = length d; next = next }))
  pub content : d ≡ data_at body place

-- it is of a Text type, and its data are not empty
pub record TextAt (body : List ℕ) (place : ℕ) (r : Bool) (d : List ℕ) : Type 0 where
  pub kind : ℕ
  pub field : FieldAt body place r kind d
  pub shape : cond r (record_shape kind) (header_shape kind) ≡ Shape.Text
  pub some : length d ≡ 0 → ⊥

-- it is an old save stamp
pub record StampAt (body : List ℕ) (place : ℕ) (r : Bool) (d : List ℕ) : Type 0 where
  pub kind : ℕ
  pub field : FieldAt body place r kind d
  pub old : OldStamp r kind d

-- the kind of value that an answer tells, and the first number that the value holds: those at 48 and 56
abbrev pub told_value_kind : List ℕ → ℕ
told_value_kind answer = number_low (take 8 (drop 48 answer))

abbrev pub told_value : List ℕ → ℕ
told_value answer = number_low (take 8 (drop 56 answer))
