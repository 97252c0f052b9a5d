-- Where the pass over the sections stands: the fields of the present section, what the code keeps of them, and that the verdict on the rest is the verdict on the body: a turn of the loop is a step of the verdict.
use Rattle.std.proofs.Common.{Some, Ok, Err}
use Prim.Native.Nat.{ℕ, ◌+◌, ◌%◌, ◌≤◌}
use mathlib.Core.Path.{◌≡◌, refl, sym, ap, ◌∙◌}
use mathlib.Core.Logic.{⊎_elim}
use mathlib.Core.Bool.{Bool, true, false, cond, not, ◌&&◌, and-false}
use mathlib.Core.List.{List, [], ◌∷◌, ◌++◌}
use native.Mathlib.Nat.{add-zero}
use native.Mathlib.Omega.{arith}
use lib.ListN.{length}
use borrow.Author.Tests.{eq-eqb}
use Rattle.fields.specs.Stored.{Stored, room_of}
use Rattle.fields.specs.Step.{start, len_at, step_of}
use Rattle.fields.specs.declared.Cursor.{Cursor}
use Rattle.fields.specs.declared.Taken.{Taken}
use Rattle.fields.specs.declared.WalkRefusal.{WalkRefusal}
use Rattle.fields.proofs.Outcomes.{at_end, forward}
use Rattle.body.specs.Sections.{is_end}
use Rattle.body.specs.Decision.{stored_at, fields_from, exact_from, none, with_counts, not_well_formed}
use Rattle.body.specs.Tally.{sections_of, empty_section, noted, passes, tallied, finished, start as begun}
use Rattle.body.specs.declared.tally.Tally.{Tally}
use Rattle.body.proofs.Sums.{Sums, sums_empty, sums_note, sums_passes, sums_fresh}
use Rattle.body.proofs.Verdict.{verdict, verdict_start, verdict_end, verdict_field, verdict_stop, verdict_broken, verdict_ended}
use Rattle.body.proofs.Along.{from_took, from_end, taken_kind, taken_length, taken_no_data, exact_took, TakesNone, none_refused, untaken, cut_off}

pub record Stands (s : List ℕ) (c : Cursor) (x : Tally) : Type 0 where
  pub cur : List Stored
  pub right : Bool
  pub sums : Sums cur right x.section
  pub within : c.place ≤ length s
  pub aligned : c.place % 16 ≡ 0
  pub few : x.counts.headers + x.counts.records ≤ c.place
  pub rest : verdict right x.section.in_record cur x.counts.headers x.counts.records (exact_from s c.place) (fields_from s c.place) ≡ sections_of s

pub stands_start : (s : List ℕ) → Stands s start begun
stands_start s =
    record { cur = []; right = true; sums = sums_empty false true; within = omega arith; aligned = refl; few = omega arith; rest = verdict_start s }

zero : (r : Bool) → ◌≡◌ {A = ℕ} (cond r 0 0) 0
zero true = refl
zero false = refl

module _ (s : List ℕ) (c : Cursor) (x : Tally) (k : Stands s c x) where
  abbrev r : Bool
  r = x.section.in_record

  abbrev h : ℕ
  h = x.counts.headers

  abbrev n : ℕ
  n = x.counts.records

  -- the walk takes no field
  pub stands_broken : (c.place ≡ length s → ⊥) → TakesNone s c → Err not_well_formed ≡ sections_of s
  stands_broken l o =
      ⊎_elim
      (λ e. verdict_broken k.right r k.cur h n (fields_from s c.place)
      ∙ ap (λ (b : Bool). verdict k.right r k.cur h n b (fields_from s c.place)) (sym (cut_off s c.place e (omega (arith, k.within)))) ∙ k.rest)
      (λ e. verdict_ended k.right r k.cur h n (exact_from s c.place) (stored_at s c.place) (fields_from s (c.place + room_of (len_at s c.place))) e.1
      ∙ ap (verdict k.right r k.cur h n (exact_from s c.place)) (sym e.0) ∙ k.rest)
      (untaken s c k.aligned o)

  -- a refusal of the walk
  pub stands_refused : (y : WalkRefusal) → step_of s c ≡ Err y → Err not_well_formed ≡ sections_of s
  stands_refused y e = stands_broken (λ l. let z = sym e ∙ at_end s c k.aligned l in cc) (none_refused s c y e)

  -- the end: nothing follows the last END
  pub stands_ended : c.place ≡ length s → finished x ≡ sections_of s
  stands_ended l =
      let e : exact_from s c.place ≡ true = rw (from_end s c (omega arith), add-zero c.place) (eq-eqb c.place (length s) l) in
      ap (λ (b : Bool). cond b (with_counts h n) (Err not_well_formed)) (by (none k.cur) refl)
      ∙ sym (verdict_stop k.right r k.cur h n (exact_from s c.place) e)
      ∙ ap (verdict k.right r k.cur h n (exact_from s c.place)) (sym (from_end s c (omega arith))) ∙ k.rest
    where
      swap : (a b c : Bool) → a && (b && c) ≡ b && (a && c)
      swap true b c = refl
      swap false true c = refl
      swap false false c = refl

      by : (o : Bool) → none k.cur ≡ o → r && (x.section.fine && not x.section.used) ≡ k.right && (r && none k.cur)
      by true o = rw (k.sums.used, o, sums_fresh k.cur k.right x.section k.sums o) (swap r k.right true)
      by false o = rw (k.sums.used, o, and-false x.section.fine, and-false r, and-false k.right)

  module _ (t : Taken) (e : step_of s c ≡ Ok (Some t)) where
    next : verdict k.right r k.cur h n (exact_from s t.next.place) (stored_at s c.place ∷ fields_from s t.next.place) ≡ sections_of s
    next =
        ap (λ (b : Bool). verdict k.right r k.cur h n b (stored_at s c.place ∷ fields_from s t.next.place)) (sym (exact_took s c t e))
        ∙ ap (verdict k.right r k.cur h n (exact_from s c.place)) (sym (from_took s c t e))
        ∙ k.rest

    ended : is_end (stored_at s c.place) ≡ true → Stands s t.next (record { section = empty_section true (passes x.section); counts = record { headers = h; records = n + cond r 1 0 } })
    ended i =
        let w = forward s c t e in
        record {
          cur = [];
          right = passes x.section;
          sums = sums_empty true (passes x.section);
          within = w.1;
          aligned = w.2;
          few = little r w.0;
          rest = ap (λ (b : Bool). verdict b true [] h (n + cond r 1 0) (exact_from s t.next.place) (fields_from s t.next.place)) (sums_passes k.cur k.right x.section k.sums)
              ∙ sym (verdict_end k.right r k.cur h n (exact_from s t.next.place) (stored_at s c.place) (fields_from s t.next.place) (taken_no_data s c t e) i)
              ∙ next;
        }
      where
        little : (r : Bool) → c.place + 16 ≤ t.next.place → h + (n + cond r 1 0) ≤ t.next.place
        little true l = omega (arith, k.few)
        little false l = omega (arith, k.few)

    noting : is_end (stored_at s c.place) ≡ false
        → Stands s t.next (record { section = noted x.section (stored_at s c.place).kind (length (stored_at s c.place).content); counts = record { headers = h + cond r 0 1; records = n } })
    noting i =
        let w = forward s c t e in
        let g = stored_at s c.place in
        record {
          cur = k.cur ++ (g ∷ []);
          right = k.right;
          sums = sums_note k.cur k.right x.section g k.sums;
          within = w.1;
          aligned = w.2;
          few = little r w.0;
          rest = sym (verdict_field k.right r k.cur h n (exact_from s t.next.place) g (fields_from s t.next.place) (taken_no_data s c t e) i) ∙ next;
        }
      where
        little : (r : Bool) → c.place + 16 ≤ t.next.place → h + cond r 0 1 + n ≤ t.next.place
        little true l = omega (arith, k.few)
        little false l = omega (arith, k.few)

    -- one field more
    pub stands_took : (x' : Tally) → x' ≡ tallied x t.kind t.len → Stands s t.next x'
    stands_took x' p = rw (p, taken_kind s c t e, taken_length s c t e) (by (is_end (stored_at s c.place)) refl)
      where
        by : (b : Bool) → is_end (stored_at s c.place) ≡ b → Stands s t.next (tallied x (stored_at s c.place).kind (length (stored_at s c.place).content))
        by true b = rw (b, zero r, add-zero h) (ended b)
        by false b = rw (b, zero r, add-zero n) (noting b)
