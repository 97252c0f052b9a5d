-- What `talc_walk` answers of a text: Text exactly where it is one, and else BadText with the number at which it goes wrong, by the values of a field (fields,
-- Texts.antt), and that the number fits its 8 bytes.
use Prim.Native.Nat.{ℕ, ◌+◌, ◌<◌}
use mathlib.Core.Path.{◌≡◌, refl, sym, ap, ◌∙◌}
use mathlib.Core.Logic.{◌↔◌}
use mathlib.Core.Bool.{Bool}
use mathlib.Core.List.{List}
use native.Mathlib.Omega.{arith}
use lib.ListN.{length, take, drop, replicate}
use Rattle.std.specs.Prelude.{Option, None, Some, Result, Ok, Err}
use Rattle.words.specs.Numbers.{number_low}
use Rattle.words.proofs.NumberLaws.{number_bytes}
use Rattle.text.specs.Grammar.{IsText}
use Rattle.text.specs.GoesWrong.{GoesWrongAt}
use Rattle.fields.specs.Value.{value_of}
use Rattle.fields.specs.Step.{step_of}
use Rattle.fields.specs.Walk.{with_value, walk_numbers}
use Rattle.fields.specs.declared.Taken.{Taken}
use Rattle.fields.specs.declared.WalkRefusal.{WalkRefusal}
use Rattle.fields.specs.declared.value.Value.TheVariants as Value
use Rattle.fields.proofs.Valued.{valued}
use Rattle.fields.proofs.Texts.{text_exactly, bad_exactly, bad_in}
use Rattle.talcfeather.specs.Numbers.{in_bytes}
use Rattle.talcfeather.proofs.InBytes.{number_at}
use Rattle.talcfeather.proofs.ValueSaid.{field_at, within, by_kind, of_value}
use Rattle.talcfeather.specs.Walk.{cursor, TalcWalk, FieldAt, TextAt, told_value_kind, told_value}

module _ {body answer : List ℕ} {place n : ℕ} {r : Bool} (c : TalcWalk body place r n answer) where
  module _ {k : ℕ} {d : List ℕ} (f : FieldAt body place r k d) where
    told_bad : (j : ℕ) → value_of r k d ≡ Value.BadText j → (told_value_kind answer ≡ 7) × (told_value answer ≡ j)
    told_bad j h = of_value c f (Value.BadText j) h (omega (arith, (bad_in r k d j h).less, within c f))

    bad_told : told_value_kind answer ≡ 7 → value_of r k d ≡ Value.BadText (told_value answer)
    bad_told h = let v = by_kind c f 7 h in v ∙ ap Value.BadText (sym (told_bad _ v).1)

  module _ (d : List ℕ) (t : TextAt body place r d) where
    -- Q5.b Text and BadText divide as before
    pub text_said : (told_value_kind answer ≡ 6) ↔ IsText d
    text_said = (
      λ h. (text_exactly r t.kind d t.shape t.some).0 (by_kind c t.field 6 h),
      λ x. (of_value c t.field Value.Text ((text_exactly r t.kind d t.shape t.some).1 x) (omega arith)).0,
    )

    -- Q5.a "The value now carries the number of bytes of the longest well-formed start, 0 where the text starts with a byte order mark, and length - 1 where only a final 00 offends.
    -- Where several apply the smallest number is given."
    pub wrong_said : (m : ℕ) → ((told_value_kind answer ≡ 7) × (told_value answer ≡ m)) ↔ GoesWrongAt d m
    wrong_said m = (
      λ h. (bad_exactly r t.kind d t.shape t.some m).0 (bad_told t.field h.0 ∙ ap Value.BadText h.1),
      λ w. told_bad t.field m ((bad_exactly r t.kind d t.shape t.some m).1 w),
    )

  nothing : (w : Result (Option Taken) WalkRefusal) → step_of body (cursor place r) ≡ w → walk_numbers (with_value value_of body (cursor place r) w) ≡ replicate 9 0 → told_value_kind answer ≡ 7 → ⊥
  nothing w e zeros h =
      let said = c.is_answer ∙ ap (λ x. in_bytes (walk_numbers x)) (valued value_of body (cursor place r) w e) ∙ ap in_bytes zeros in
      let z : told_value_kind answer ≡ 0 = ap (λ (l : List ℕ). told_value_kind l) said ∙ ap number_low (number_at (replicate 9 0) 6 (omega arith)) ∙ number_bytes 8 0 in
      omega arith

  -- no other field has BadText, and the number is less than the length
  pub wrong_within : told_value_kind answer ≡ 7 → (d : List ℕ) × TextAt body place r d × (told_value answer < length d)
  wrong_within h = by (step_of body (cursor place r)) refl
    where
      by : (w : Result (Option Taken) WalkRefusal) → step_of body (cursor place r) ≡ w → (d : List ℕ) × TextAt body place r d × (told_value answer < length d)
      by (Ok (Some t)) e =
          let f = field_at t e in
          let d = take t.len (drop (place + 5) body) in
          let b = bad_in r t.kind d (told_value answer) (bad_told f h) in
          (d, record { kind = t.kind; field = f; shape = b.shape; some = λ z. none b.less z }, b.less)
        where
          none : {i j : ℕ} → i < j → j ≡ 0 → ⊥
          none l z = omega arith
      by (Ok None) e = absurd (nothing (Ok None) e refl h)
      by (Err x) e = absurd (nothing (Err x) e refl h)
