-- The walk: a step, and of a field its value too. What the data stand for is a function of its own, so that what is said of places holds whatever it is.
use Rattle.std.specs.Prelude.{ℕ, ◌+◌, Bool, cond, List, [], ◌∷◌, take, drop, replicate, Option, None, Some, Result, Ok, Err}
use Rattle.fields.specs.Step.{step_of}
use Rattle.fields.specs.Value.{value_of, value_numbers}
use Rattle.fields.specs.declared.Cursor.{Cursor}
use Rattle.fields.specs.declared.Field.{Field}
use Rattle.fields.specs.declared.Taken.{Taken}
use Rattle.fields.specs.declared.WalkRefusal.{WalkRefusal}
use Rattle.fields.specs.declared.WalkRefusal.TheVariants.{Misplaced, Broken}
use Rattle.fields.specs.declared.value.Value.{Value}

-- a value, by whether it is in a record (else in the header), the type and the data
abbrev pub ValueFunction : Type 0
ValueFunction = Bool → ℕ → List ℕ → Value

-- the field at a cursor, of type k and with n bytes of data: type, place and length, with the value inside
abbrev pub field_by : ValueFunction → List ℕ → Cursor → ℕ → ℕ → Field
field_by v s c k n =
    record { kind = k; place = c.place; len = n; value = v c.in_record k (take n (drop (c.place + 5) s)) }

-- an answer of the walk: the field and the cursor after it; Ok None at the end
abbrev pub Walked : Type 0
Walked = Result (Option (Field × Cursor)) WalkRefusal

abbrev pub with_value : ValueFunction → List ℕ → Cursor → Result (Option Taken) WalkRefusal → Walked
with_value v s c (Ok (Some t)) = Ok (Some (field_by v s c t.kind t.len, t.next))
with_value v s c (Ok None) = Ok None
with_value v s c (Err e) = Err e

-- by any values
unfoldable pub walk_by : ValueFunction → List ℕ → Cursor → Walked
walk_by v s c = with_value v s c (step_of s c)

-- by document 01's, as document 02 amends them
abbrev pub walk_of : List ℕ → Cursor → Walked
walk_of = walk_by value_of

-- the number of a refusal
abbrev pub walk_refusal_number : WalkRefusal → ℕ
walk_refusal_number Misplaced = 11
walk_refusal_number Broken = 14

-- the number of an answer, 0 where nothing is refused, and its values: the next cursor, and the field's type, place, length and value
abbrev pub walk_number : Walked → ℕ
walk_number (Ok w) = 0
walk_number (Err e) = walk_refusal_number e

abbrev pub walk_values : Walked → List ℕ
walk_values (Ok (Some w)) = w.1.place ∷ cond w.1.in_record 1 0 ∷ w.0.kind ∷ w.0.place ∷ w.0.len ∷ value_numbers w.0.value
walk_values (Ok None) = []
walk_values (Err e) = []

-- nine numbers: 1 and the values; zeros at the end, and where refused
abbrev pub walk_numbers : Walked → List ℕ
walk_numbers (Ok (Some w)) = 1 ∷ walk_values (Ok (Some w))
walk_numbers (Ok None) = replicate 9 0
walk_numbers (Err e) = replicate 9 0
