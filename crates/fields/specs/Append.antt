-- Appending a field to a buffer (document 01, "Numbers of refusal"), in the order 11, 13, 12, 3.
use Rattle.std.specs.Prelude.{ℕ, ◌+◌, Bool, cond, not, ◌||◌, List, [], ◌∷◌, ◌++◌, ltb, eqb, length, take, drop, Result, Ok, Err}
use Rattle.fields.specs.Stored.{Stored, bytes_of, room_of, fill_of}
use Rattle.fields.specs.Step.{misplaced, end_with_data}
use Rattle.fields.specs.declared.store.AppendRefusal.{AppendRefusal}
use Rattle.fields.specs.declared.store.AppendRefusal.TheVariants.{Misplaced, EndWithData, BadFill, NoRoom}

-- 3: the field would end past the buffer or past 4,194,096
abbrev pub no_room : List ℕ → ℕ → Bool
no_room b end = ltb (length b) end || ltb 4194096 end

-- 12: fill is not exactly the needed number of bytes
abbrev pub bad_fill : Stored → Bool
bad_fill f = not (eqb (length f.fill) (fill_of (length f.content)))

-- an answer of append: the next place
abbrev pub Appended : Type 0
Appended = Result ℕ AppendRefusal

-- the field f to the buffer b, at place p
unfoldable pub append_of : List ℕ → ℕ → Stored → Appended
append_of b p f =
    cond (misplaced b p) (Err Misplaced)
    (cond (end_with_data f.kind (length f.content)) (Err EndWithData)
    (cond (bad_fill f) (Err BadFill)
    (cond (no_room b (p + room_of (length f.content))) (Err NoRoom)
    (Ok (p + room_of (length f.content))))))

-- refused: unchanged. Accepted: only the new field's bytes change, from its place to the next
abbrev pub buffer_after : Appended → List ℕ → ℕ → Stored → List ℕ
buffer_after (Ok q) b p f = take p b ++ (bytes_of f ++ drop q b)
buffer_after (Err e) b p f = b

-- the number of a refusal
abbrev pub append_refusal_number : AppendRefusal → ℕ
append_refusal_number Misplaced = 11
append_refusal_number EndWithData = 13
append_refusal_number BadFill = 12
append_refusal_number NoRoom = 3

-- the number of an answer, 0 where nothing is refused, and its values
abbrev pub append_number : Appended → ℕ
append_number (Ok q) = 0
append_number (Err e) = append_refusal_number e

abbrev pub append_values : Appended → List ℕ
append_values (Ok q) = q ∷ []
append_values (Err e) = []
