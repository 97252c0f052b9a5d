-- The number of every answer, in the order of the document, and that a contract leaves one answer only: by the tests, by the cases of an answer, and by transitivity.
use Prim.Native.Nat.{ℕ, ◌+◌}
use mathlib.Core.Path.{◌≡◌, sym, ap, ◌∙◌}
use mathlib.Core.Bool.{cond}
use mathlib.Core.List.{List, [], ◌∷◌}
use lib.Dec.{eqb}
use lib.ListN.{length, get_or}
use native.Mathlib.Omega.{arith}
use Rattle.std.proofs.lemmas.Bool.Decides.{nat_tests}
use Rattle.fields.specs.Stored.{Stored, room_of}
use Rattle.fields.specs.Value.{value_numbers}
use Rattle.fields.specs.Step.{misplaced, broken, end_with_data, step_of}
use Rattle.fields.specs.Walk.{ValueFunction, Walked, walk_by, walk_of, walk_number, walk_values}
use Rattle.fields.specs.Append.{Appended, append_of, append_number, append_values, bad_fill, no_room, buffer_after}
use Rattle.fields.specs.declared.Cursor.{Cursor}
use Rattle.fields.specs.declared.value.Value.{Value}
use Rattle.fields.specs.declared.value.Value.TheVariants as value

-- walk: 11, then 14, whatever the values
pub walk_numbers_lem : (v : ValueFunction) (s : List ℕ) (c : Cursor)
    → walk_number (walk_by v s c) ≡ cond (misplaced s c.place) 11 (cond (eqb c.place (length s)) 0 (cond (broken s c.place) 14 0))
unfolding walk_by step_of
walk_numbers_lem v s c = grind (arith, nat_tests)

-- append: 11, 13, 12, 3
pub append_numbers_lem : (b : List ℕ) (p : ℕ) (f : Stored)
    → append_number (append_of b p f)
    ≡ cond (misplaced b p) 11 (cond (end_with_data f.kind (length f.content)) 13 (cond (bad_fill f) 12 (cond (no_room b (p + room_of (length f.content))) 3 0)))
unfolding append_of
append_numbers_lem b p f = grind (arith, nat_tests)

-- the value of such numbers
abbrev pub value_by : ℕ → ℕ → ℕ → Value
value_by k a b =
    cond (eqb k 0) value.Empty
    (cond (eqb k 1) value.End
    (cond (eqb k 2) (value.Uuid (record { low = a; high = b }))
    (cond (eqb k 3) (value.Time a)
    (cond (eqb k 4) (value.Number a)
    (cond (eqb k 5) (value.Flag (eqb a 1))
    (cond (eqb k 6) value.Text
    (cond (eqb k 7) (value.BadText a)
    (cond (eqb k 8) value.Misshapen value.Opaque))))))))

pub value_said : (v : Value) → value_by (get_or (value_numbers v) 0 0) (get_or (value_numbers v) 1 0) (get_or (value_numbers v) 2 0) ≡ v
value_said v = grind (arith, nat_tests)

-- a value has three numbers
pub three_numbers : (v : Value) → get_or (value_numbers v) 0 0 ∷ get_or (value_numbers v) 1 0 ∷ get_or (value_numbers v) 2 0 ∷ [] ≡ value_numbers v
three_numbers v = grind arith

-- number and values tell the answer
pub walk_told : (r r' : Walked) → walk_number r ≡ walk_number r' → walk_values r ≡ walk_values r' → r ≡ r'
walk_told r r' n v = grind (arith, nat_tests, value_said)

pub append_told : (r r' : Appended) → append_number r ≡ append_number r' → append_values r ≡ append_values r' → r ≡ r'
append_told r r' n v = grind (arith, nat_tests)

-- no second answer
pub walk_one : (s : List ℕ) (c : Cursor) (r r' : Walked) → r ≡ walk_of s c → r' ≡ walk_of s c → r ≡ r'
walk_one s c r r' h h' = h ∙ sym h'

pub append_one : (b : List ℕ) (p : ℕ) (f : Stored) (r r' : Appended) (m m' : List ℕ)
    → (r ≡ append_of b p f) × (m ≡ buffer_after r b p f) → (r' ≡ append_of b p f) × (m' ≡ buffer_after r' b p f) → (r ≡ r') × (m ≡ m')
append_one b p f r r' m m' h h' =
    let e : r ≡ r' = h.0 ∙ sym h'.0 in
    (e, h.1 ∙ ap (λ (x : Appended). buffer_after x b p f) e ∙ sym h'.1)
