-- The walk by any values gives what the step gives, and the value by these: by the cases of the step's answer. So what it takes, and where, is the same whatever the values.
use Prim.Native.Nat.{ℕ}
use mathlib.Core.Path.{◌≡◌, sym, ap, ◌∙◌}
use mathlib.Core.List.{List}
use Rattle.std.proofs.Common.{Option, None, Some, Result, Ok, Err, arith}
use Rattle.fields.specs.Step.{step_of}
use Rattle.fields.specs.Walk.{ValueFunction, Walked, field_by, with_value, walk_by}
use Rattle.fields.specs.declared.Cursor.{Cursor}
use Rattle.fields.specs.declared.Field.{Field}
use Rattle.fields.specs.declared.Taken.{Taken}
use Rattle.fields.specs.declared.WalkRefusal.{WalkRefusal}

abbrev Stepped : Type 0
Stepped = Result (Option Taken) WalkRefusal

abbrev pub without_value : Walked → Stepped
without_value (Ok (Some w)) = Ok (Some (record { kind = w.0.kind; len = w.0.len; next = w.1 }))
without_value (Ok None) = Ok None
without_value (Err e) = Err e

module _ (v : ValueFunction) (s : List ℕ) (c : Cursor) where
  -- with the step's answer
  pub valued : (r : Stepped) → step_of s c ≡ r → walk_by v s c ≡ with_value v s c r
  unfolding walk_by
  valued r e = ap (with_value v s c) e

  -- without the value it is the step
  pub step_of_lem : without_value (walk_by v s c) ≡ step_of s c
  unfolding walk_by
  step_of_lem = grind arith

  -- and the field that it takes has the value by v
  pub field_of : (f : Field) (d : Cursor) → walk_by v s c ≡ Ok (Some (f, d)) → f ≡ field_by v s c f.kind f.len
  unfolding walk_by
  field_of f d e = grind arith

-- two walks that differ in the values alone take the same, where the other does, and refuse the same
pub any_values : (v w : ValueFunction) (s : List ℕ) (c : Cursor) → without_value (walk_by v s c) ≡ without_value (walk_by w s c)
any_values v w s c = step_of_lem v s c ∙ sym (step_of_lem w s c)
