-- What `talc_walk` answers of an old save stamp: Time with the number that it spells, and else Misshapen; everything else is as by the list before Q-2. By the values of a
-- field (fields, Stamps.antt), and since the walk's step makes no value.
use Prim.Native.Nat.{ℕ, zero, suc, ◌+◌, ◌*◌, ◌^◌, ◌<◌}
use mathlib.Core.Path.{◌≡◌, refl, sym, ap, ◌∙◌}
use mathlib.Core.Logic.{◌↔◌}
use mathlib.Core.Bool.{Bool, true, false, cond, false≢true}
use mathlib.Core.List.{List}
use native.Mathlib.Omega.{arith}
use lib.ListN.{length, get_or, take, drop}
use Rattle.words.specs.Hex.{Digits, all_digits, hex_number, Spells}
use Rattle.std.specs.Prelude.{Option, None, Some, Result, Ok, Err}
use Rattle.words.specs.Numbers.{bytes_low}
use Rattle.fields.specs.Value.{old_stamp, listed_of, value_of, value_numbers}
use Rattle.fields.specs.Step.{step_of}
use Rattle.fields.specs.Walk.{Walked, field_by, with_value, walk_by, walk_number, walk_numbers}
use Rattle.fields.specs.declared.Cursor.{Cursor}
use Rattle.fields.specs.declared.Field.{Field}
use Rattle.fields.specs.declared.Taken.{Taken}
use Rattle.fields.specs.declared.WalkRefusal.{WalkRefusal}
use Rattle.fields.specs.declared.value.Value.{Value}
use Rattle.fields.proofs.Numbers.{walk_numbers_lem}
use Rattle.fields.proofs.Stamps.{old_exactly, as_stamp, as_listed, stamp_exactly, stamp_else, stamp_before, unless_digits}
use Rattle.fields.proofs.Valued.{valued}
use Rattle.talcfeather.specs.Numbers.{in_bytes}
use Rattle.talcfeather.proofs.InBytes.{number_at}
use Rattle.talcfeather.proofs.ValueSaid.{nine, field_at, by_kind, of_value}
use Rattle.talcfeather.specs.Walk.{cursor, TalcWalk, StampAt, told_value_kind, told_value}

-- it fits its 8 bytes
fits : (d : List ℕ) (t : ℕ) → length d ≡ 8 → Spells d t → t < 2 ^ 64
fits d t l s = let h = s.fits in let i : t < 16 ^ 8 = rw l at h in omega arith

-- a number of an answer
abbrev number : ℕ → Walked → List ℕ
number i w = take 8 (drop (8 * i) (in_bytes (walk_numbers w)))

-- the second half of a Uuid is there in both, or in neither
third : (r : Bool) (k : ℕ) (d : List ℕ) → get_or (value_numbers (value_of r k d)) 2 0 ≡ get_or (value_numbers (listed_of r k d)) 2 0
third r k d = by (old_stamp r k (length d)) refl
  where
    zero_of : (b : Bool) (t : ℕ) → get_or (value_numbers (cond b (Value.Time t) Value.Misshapen)) 2 0 ≡ 0
    zero_of true t = refl
    zero_of false t = refl

    by : (b : Bool) → old_stamp r k (length d) ≡ b → get_or (value_numbers (value_of r k d)) 2 0 ≡ get_or (value_numbers (listed_of r k d)) 2 0
    by true e =
        let o = (old_exactly r k d).0 e in
        ap (λ (v : Value). get_or (value_numbers v) 2 0) (as_stamp r k d o) ∙ zero_of (all_digits d) (hex_number d)
        ∙ sym (ap (λ (v : Value). get_or (value_numbers v) 2 0) (stamp_before r k d o))
    by false e = ap (λ (v : Value). get_or (value_numbers v) 2 0) (as_listed r k d (λ o. false≢true (sym e ∙ (old_exactly r k d).1 o)))

abbrev valued_as : ℕ → ℕ → ℕ → Value → Field
valued_as k p n v = record { kind = k; place = p; len = n; value = v }

-- the numbers beside a value's first two do not go by it
beside : (d : Cursor) (k p n : ℕ) (v w : Value) → get_or (value_numbers v) 2 0 ≡ get_or (value_numbers w) 2 0 → (i : ℕ) → i < 9 → (i ≡ 6 → ⊥) → (i ≡ 7 → ⊥)
    → get_or (walk_numbers (Ok (Some (valued_as k p n v, d)))) i 0 ≡ get_or (walk_numbers (Ok (Some (valued_as k p n w, d)))) i 0
beside d k p n v w t zero h six seven = refl
beside d k p n v w t (suc zero) h six seven = refl
beside d k p n v w t (suc (suc zero)) h six seven = refl
beside d k p n v w t (suc (suc (suc zero))) h six seven = refl
beside d k p n v w t (suc (suc (suc (suc zero)))) h six seven = refl
beside d k p n v w t (suc (suc (suc (suc (suc zero))))) h six seven = refl
beside d k p n v w t (suc (suc (suc (suc (suc (suc zero)))))) h six seven = absurd (six refl)
beside d k p n v w t (suc (suc (suc (suc (suc (suc (suc zero))))))) h six seven = absurd (seven refl)
beside d k p n v w t (suc (suc (suc (suc (suc (suc (suc (suc zero)))))))) h six seven = t
beside d k p n v w t (suc (suc (suc (suc (suc (suc (suc (suc (suc i))))))))) h six seven = absurd (omega arith)

module _ {body answer : List ℕ} {place n : ℕ} {r : Bool} (c : TalcWalk body place r n answer) where
  module _ (d : List ℕ) (s : StampAt body place r d) where
    -- Q2.a "For header 04 and 13, eight hex digits of either case now give Time"
    pub stamp_said : (t : ℕ) → ((told_value_kind answer ≡ 3) × (told_value answer ≡ t)) ↔ Spells d t
    stamp_said t = (
      λ h.
          let v = by_kind c s.field 3 h.0 in
          let x = (stamp_exactly r s.kind d s.old _).0 v in
          let e = (of_value c s.field _ v (fits d _ s.old.eight x)).1 in
          rw (← h.1, e) x,
      λ x. of_value c s.field (Value.Time t) ((stamp_exactly r s.kind d s.old t).1 x) (fits d t s.old.eight x),
    )

    -- Q2.a "eight bytes that are not all hex digits stay Misshapen"
    pub misshapen_said : (told_value_kind answer ≡ 8) ↔ (Digits d → ⊥)
    misshapen_said = (
      λ h. (stamp_else r s.kind d s.old).0 (by_kind c s.field 8 h),
      λ x. (of_value c s.field Value.Misshapen ((stamp_else r s.kind d s.old).1 x) (omega arith)).0,
    )

  -- the same walk, where the value does not matter
  alike : (w : Result (Option Taken) WalkRefusal) → step_of body (cursor place r) ≡ w → with_value value_of body (cursor place r) w ≡ with_value listed_of body (cursor place r) w
      → walk_by value_of body (cursor place r) ≡ walk_by listed_of body (cursor place r)
  alike w e h = valued value_of body (cursor place r) w e ∙ h ∙ sym (valued listed_of body (cursor place r) w e)

  -- Q2.b of every other field, where there is none, and of an old stamp that is not all digits, the whole answer is what it was
  pub listed_said : ((d : List ℕ) → StampAt body place r d → Digits d → ⊥) → answer ≡ in_bytes (walk_numbers (walk_by listed_of body (cursor place r)))
  listed_said other = c.is_answer ∙ ap (λ w. in_bytes (walk_numbers w)) (by (step_of body (cursor place r)) refl)
    where
      by : (w : Result (Option Taken) WalkRefusal) → step_of body (cursor place r) ≡ w → walk_by value_of body (cursor place r) ≡ walk_by listed_of body (cursor place r)
      by (Ok (Some t)) e =
          let d = take t.len (drop (place + 5) body) in
          let v : value_of r t.kind d ≡ listed_of r t.kind d = unless_digits r t.kind d (λ o. other d (record { kind = t.kind; field = field_at t e; old = o })) in
          alike _ e (ap (λ (x : Value). Ok (Some (valued_as t.kind place t.len x, t.next))) v)
      by (Ok None) e = alike _ e refl
      by (Err x) e = alike _ e refl

  -- Q2.b "acceptance and refusals aren't"
  pub refusal_said : n ≡ walk_number (walk_by listed_of body (cursor place r))
  refusal_said = c.is_number ∙ walk_numbers_lem value_of body (cursor place r) ∙ sym (walk_numbers_lem listed_of body (cursor place r))

  -- of an old stamp too, every number is what it was but the kind of its value and the value: those at 48 and 56
  pub rest_said : (i : ℕ) → i < 9 → (i ≡ 6 → ⊥) → (i ≡ 7 → ⊥)
      → take 8 (drop (8 * i) answer) ≡ take 8 (drop (8 * i) (in_bytes (walk_numbers (walk_by listed_of body (cursor place r)))))
  rest_said i h six seven = ap (λ (l : List ℕ). take 8 (drop (8 * i) l)) c.is_answer ∙ by (step_of body (cursor place r)) refl
    where
      by : (w : Result (Option Taken) WalkRefusal) → step_of body (cursor place r) ≡ w → number i (walk_by value_of body (cursor place r)) ≡ number i (walk_by listed_of body (cursor place r))
      by (Ok (Some t)) e =
          let a = field_by value_of body (cursor place r) t.kind t.len in
          let b = field_by listed_of body (cursor place r) t.kind t.len in
          ap (number i) (valued value_of body (cursor place r) _ e)
          ∙ number_at (walk_numbers (Ok (Some (a, t.next)))) i (omega (arith, nine a t.next))
          ∙ ap (bytes_low 8) (beside t.next t.kind place t.len a.value b.value (third r t.kind (take t.len (drop (place + 5) body))) i h six seven)
          ∙ sym (number_at (walk_numbers (Ok (Some (b, t.next)))) i (omega (arith, nine b t.next)))
          ∙ sym (ap (number i) (valued listed_of body (cursor place r) _ e))
      by (Ok None) e = ap (number i) (alike _ e refl)
      by (Err x) e = ap (number i) (alike _ e refl)
