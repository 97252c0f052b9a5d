-- What `talc_walk` answers of a field's value, where it takes one: by the contract of the call, and where the nine numbers of an answer stand.
use Prim.Native.Nat.{ℕ, ◌+◌, ◌%◌, ◌^◌, ◌<◌}
use mathlib.Core.Path.{◌≡◌, sym, ap, ◌∙◌}
use mathlib.Core.Bool.{Bool}
use mathlib.Core.List.{List}
use native.Mathlib.Nat.{mod-eq_of_lt}
use native.Mathlib.Omega.{arith}
use lib.ListN.{length, get_or, take, drop, length-take, length-drop}
use Rattle.std.specs.Prelude.{Some, Ok}
use Rattle.words.specs.Numbers.{number_low, bytes_low}
use Rattle.words.proofs.NumberLaws.{number_bytes}
use Rattle.fields.specs.Value.{value_of, value_numbers}
use Rattle.fields.specs.Step.{step_of}
use Rattle.fields.specs.Walk.{walk_numbers}
use Rattle.fields.specs.declared.Cursor.{Cursor}
use Rattle.fields.specs.declared.Field.{Field}
use Rattle.fields.specs.declared.Taken.{Taken}
use Rattle.fields.specs.declared.value.Value.{Value}
use Rattle.fields.proofs.Outcomes.{taken, data_inside}
use Rattle.fields.proofs.Valued.{valued}
use Rattle.fields.proofs.Numbers.{value_by, value_said, three_numbers}
use Rattle.talcfeather.specs.Numbers.{in_bytes}
use Rattle.talcfeather.proofs.InBytes.{number_at}
use Rattle.talcfeather.specs.Walk.{cursor, TalcWalk, FieldAt, told_value_kind, told_value}

-- ---- a value's numbers, as they stand in the answer
module _ (f : Field) (d : Cursor) where
  pub nine : length (walk_numbers (Ok (Some (f, d)))) ≡ 9
  nine = let three : length (value_numbers f.value) ≡ 3 = ap length (sym (three_numbers f.value)) in omega arith

  at_48 : take 8 (drop 48 (in_bytes (walk_numbers (Ok (Some (f, d)))))) ≡ bytes_low 8 (get_or (value_numbers f.value) 0 0)
  at_48 = number_at (walk_numbers (Ok (Some (f, d)))) 6 (omega (arith, nine))

  at_56 : take 8 (drop 56 (in_bytes (walk_numbers (Ok (Some (f, d)))))) ≡ bytes_low 8 (get_or (value_numbers f.value) 1 0)
  at_56 = number_at (walk_numbers (Ok (Some (f, d)))) 7 (omega (arith, nine))

small : (v : Value) → get_or (value_numbers v) 0 0 < 2 ^ 64
small Value.Empty = omega arith
small Value.End = omega arith
small (Value.Uuid u) = omega arith
small (Value.Time t) = omega arith
small (Value.Number n) = omega arith
small (Value.Flag t) = omega arith
small Value.Text = omega arith
small (Value.BadText n) = omega arith
small Value.Misshapen = omega arith
small Value.Opaque = omega arith

-- ---- where the walk takes a field
abbrev taking : ℕ → ℕ → Cursor → Taken
taking k n next = record { kind = k; len = n; next = next }

module _ {body : List ℕ} {place : ℕ} {r : Bool} where
  -- it is there
  pub field_at : (t : Taken) → step_of body (cursor place r) ≡ Ok (Some t) → FieldAt body place r t.kind (take t.len (drop (place + 5) body))
  field_at t e =
      let i = data_inside body (cursor place r) t e in
      let long : length (take t.len (drop (place + 5) body)) ≡ t.len = simp (length-take, length-drop) (omega arith) in
      record {
        next = t.next;
        taken = e ∙ ap (λ (n : ℕ). Ok (Some (taking t.kind n t.next))) (sym long);
        content = ap (λ (n : ℕ). take n (drop (place + 5) body)) (taken body (cursor place r) t e).len;
      }

  module _ {n : ℕ} {answer : List ℕ} (c : TalcWalk body place r n answer) {k : ℕ} {d : List ℕ} (f : FieldAt body place r k d) where
    -- its length is that of a part of the body
    pub within : length d < 2 ^ 64
    within = omega (arith, data_inside body (cursor place r) (taking k (length d) f.next) f.taken, c.short)

    abbrev field : Field
    field = record { kind = k; place = place; len = length d; value = value_of r k d }

    -- with the value of these data
    abbrev with_value_as : List ℕ → Field
    with_value_as x = record { kind = k; place = place; len = length d; value = value_of r k x }

    said : answer ≡ in_bytes (walk_numbers (Ok (Some (field, f.next))))
    said =
        let l = (taken body (cursor place r) (taking k (length d) f.next) f.taken).len in
        let same : take (length d) (drop (place + 5) body) ≡ d = ap (λ (m : ℕ). take m (drop (place + 5) body)) l ∙ sym f.content in
        c.is_answer ∙ ap (λ w. in_bytes (walk_numbers w)) (valued value_of body (cursor place r) _ f.taken)
        ∙ ap (λ (x : List ℕ). in_bytes (walk_numbers (Ok (Some (with_value_as x, f.next))))) same

    pub told_kind : told_value_kind answer ≡ get_or (value_numbers (value_of r k d)) 0 0
    told_kind =
        ap (λ (l : List ℕ). told_value_kind l) said ∙ ap number_low (at_48 field f.next)
        ∙ number_bytes 8 (get_or (value_numbers (value_of r k d)) 0 0) ∙ mod-eq_of_lt (small (value_of r k d))

    pub told_first : told_value answer ≡ get_or (value_numbers (value_of r k d)) 1 0 % 2 ^ 64
    told_first =
        ap (λ (l : List ℕ). told_value l) said ∙ ap number_low (at_56 field f.next)
        ∙ number_bytes 8 (get_or (value_numbers (value_of r k d)) 1 0)

    -- by the kind that is told
    pub by_kind : (j : ℕ) → told_value_kind answer ≡ j
        → value_of r k d ≡ value_by j (get_or (value_numbers (value_of r k d)) 1 0) (get_or (value_numbers (value_of r k d)) 2 0)
    by_kind j e =
        sym (value_said (value_of r k d))
        ∙ ap (λ (i : ℕ). value_by i (get_or (value_numbers (value_of r k d)) 1 0) (get_or (value_numbers (value_of r k d)) 2 0)) (sym told_kind ∙ e)

    -- kind and value of a value that is known
    pub of_value : (v : Value) → value_of r k d ≡ v → get_or (value_numbers v) 1 0 < 2 ^ 64
        → (told_value_kind answer ≡ get_or (value_numbers v) 0 0) × (told_value answer ≡ get_or (value_numbers v) 1 0)
    of_value v h l =
        (told_kind ∙ ap (λ (x : Value). get_or (value_numbers x) 0 0) h, told_first ∙ ap (λ (x : Value). get_or (value_numbers x) 1 0 % 2 ^ 64) h ∙ mod-eq_of_lt l)
