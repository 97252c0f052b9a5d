-- The records of a body one by one: the fields that the walk takes at a place say where the next record starts and what stands at its spots, by recursion on them; and where
-- sections of a body are left, the first of them is the record there. These are the laws for a loop over records: start, turn, stop.
use Prim.Native.Nat.{ℕ, ◌+◌, ◌<◌, ◌≤◌}
use mathlib.Core.Path.{◌≡◌, refl, sym, ap, ap₂, ◌∙◌, subst}
use mathlib.Core.Bool.{Bool, true, false, cond, not, ◌&&◌, false≢true}
use mathlib.Core.List.{List, [], ◌∷◌, ◌++◌}
use native.Mathlib.Nat.{add-zero}
use native.Mathlib.Omega.{arith}
use lib.Dec.{eqb}
use lib.ListN.{length, take, drop, length-append}
use borrow.Author.Tests.{eqb-true}
use Rattle.std.proofs.Common.{Option, Some, None, Result, Ok, Err}
use Rattle.words.specs.Each.{Each}
use Rattle.words.proofs.EachLaws.{both}
use Rattle.fields.specs.Stored.{Stored, bytes_of, room_of}
use Rattle.fields.specs.Step.{len_at, end_with_data, taken_at, step_of}
use Rattle.fields.specs.declared.Cursor.{Cursor}
use Rattle.fields.specs.declared.Taken.{Taken}
use Rattle.fields.specs.declared.WalkRefusal.{WalkRefusal}
use Rattle.fields.proofs.Outcomes.{taken, forward, next_place}
use Rattle.body.specs.Division.{joined}
use Rattle.body.specs.Sections.{is_end, runs, first_data}
use Rattle.body.specs.WellFormed.{GoodRecord}
use Rattle.body.specs.Decision.{stored_at, fields_of, taken_from, exact_from, ends_empty, version_first, formed, is_well_formed, header_in, records_in}
use Rattle.body.specs.RecordAt.{before_end, behind_end, spot_of, record_at, content_at}
use Rattle.body.proofs.Division.{stored_long, data_long}
use Rattle.body.proofs.Decided.{sections_in, in_sections}
use Rattle.body.proofs.Verdict.{some_run}
use Rattle.body.proofs.Along.{none_at_end, none_refused, taken_took, taken_else, taken_stop, taken_fits, taken_no_data, walkable_all}

-- an END is no UUID
pub end_no_uuid : (f : Stored) → is_end f ≡ true → eqb f.kind 0x01 ≡ false
end_no_uuid f h = ap (λ (k : ℕ). eqb k 0x01) (eqb-true f.kind 0xff h)

-- in a record at place p
abbrev pub inside : ℕ → Cursor
inside p = record { place = p; in_record = true }

-- The walk takes f at p, and then fs.
pub record Next (s : List ℕ) (p : ℕ) (f : Stored) (fs : List Stored) : Type 0 where
  pub walks : step_of s (inside p) ≡ Ok (Some (taken_at s (inside p)))
  pub is : f ≡ stored_at s p
  pub long : length f.content ≡ len_at s p
  pub blocks : length (bytes_of f) ≡ room_of (length f.content)
  pub no_data : end_with_data f.kind (length f.content) ≡ false
  pub within : p + room_of (length f.content) ≤ length s
  pub rest : taken_from s (p + room_of (length f.content)) ≡ fs

same_taken : (t u : Taken) → t.kind ≡ u.kind → t.len ≡ u.len → t.next ≡ u.next → t ≡ u
same_taken t u i j k = ap₂ (λ (m : ℕ × ℕ) (c : Cursor). record { kind = m.0; len = m.1; next = c }) (ap₂ (λ (a b : ℕ). (a, b)) i j) k

pub taken_next : (s : List ℕ) (p : ℕ) (f : Stored) (fs : List Stored) → taken_from s p ≡ f ∷ fs → Next s p f fs
taken_next s p f fs e = by (step_of s (inside p)) refl
  where
    none : taken_from s p ≡ [] → Next s p f fs
    none h = absurd (omega (arith, ap length (sym h ∙ e)))

    by : (y : Result (Option Taken) WalkRefusal) → step_of s (inside p) ≡ y → Next s p f fs
    by (Ok (Some t)) w =
        let d = t.next in
        let z : stored_at s p ∷ taken_from s d.place ≡ f ∷ fs = sym (taken_took s (inside p) t w) ∙ e in
        let i : f ≡ stored_at s p = cc in
        let l = data_long s p (taken_fits s (inside p) t w) in
        let n : length f.content ≡ len_at s p = ap (λ (x : Stored). length x.content) i ∙ l in
        let q : d.place ≡ p + room_of (length f.content) = next_place s (inside p) t w ∙ ap (λ (m : ℕ). p + room_of m) (sym n) in
        let r : taken_from s d.place ≡ fs = cc in
        let x = taken s (inside p) t w in
        record {
          walks = w ∙ ap (λ (u : Taken). Ok (Some u)) (same_taken t (taken_at s (inside p)) x.kind x.len x.next);
          is = i;
          long = n;
          blocks = ap (λ (x : Stored). length (bytes_of x)) i ∙ stored_long s p (taken_fits s (inside p) t w) ∙ ap room_of (sym n);
          no_data = ap (λ (x : Stored). end_with_data x.kind (length x.content)) i ∙ taken_no_data s (inside p) t w;
          within = omega (arith, q, (forward s (inside p) t w).1);
          rest = ap (taken_from s) (sym q) ∙ r;
        }
    by (Ok None) w = none (taken_else s (inside p) (none_at_end s (inside p) w))
    by (Err y) w = none (taken_else s (inside p) (none_refused s (inside p) y w))

-- an END takes a block
end_room : (f : Stored) → end_with_data f.kind (length f.content) ≡ false → is_end f ≡ true → room_of (length f.content) ≡ 16
end_room f h e = ap room_of (eqb-true (length f.content) 0 (by (is_end f) (eqb (length f.content) 0) h e))
  where
    by : (a b : Bool) → (a && not b) ≡ false → a ≡ true → b ≡ true
    by true true h e = refl
    by true false h e = absurd (false≢true (sym h))
    by false b h e = absurd (false≢true e)

-- the fields after the first END
unfoldable pub after_end : List Stored → List Stored
after_end [] = []
after_end (f ∷ fs) = cond (is_end f) fs (after_end fs)

module _ (s : List ℕ) where
  -- at the next place the walk takes the fields after the END
  pub taken_behind : (p : ℕ) (fs : List Stored) → taken_from s p ≡ fs → taken_from s (behind_end p fs) ≡ after_end fs
  unfolding behind_end after_end
  taken_behind p [] e = e
  taken_behind p (f ∷ fs) e = let n = taken_next s p f fs e in by (is_end f) n.rest (taken_behind (p + room_of (length f.content)) fs n.rest)
    where
      by : (b : Bool) → taken_from s (p + room_of (length f.content)) ≡ fs
          → taken_from s (behind_end (p + room_of (length f.content)) fs) ≡ after_end fs
          → taken_from s (cond b (p + room_of (length f.content)) (behind_end (p + room_of (length f.content)) fs)) ≡ cond b fs (after_end fs)
      by true h ih = h
      by false h ih = ih

  behind_long : (p : ℕ) (fs : List Stored) → taken_from s p ≡ fs → behind_end p fs + length (joined (after_end fs)) ≡ p + length (joined fs)
  unfolding behind_end after_end
  behind_long p [] e = refl
  behind_long p (f ∷ fs) e =
      let n = taken_next s p f fs e in
      let z : p + room_of (length f.content) + length (joined fs) ≡ p + length (bytes_of f ++ joined fs) = rw (length-append (bytes_of f) (joined fs), n.blocks) (omega arith) in
      by (is_end f) z (behind_long (p + room_of (length f.content)) fs n.rest)
    where
      by : (b : Bool) → p + room_of (length f.content) + length (joined fs) ≡ p + length (bytes_of f ++ joined fs)
          → behind_end (p + room_of (length f.content)) fs + length (joined (after_end fs)) ≡ p + room_of (length f.content) + length (joined fs)
          → cond b (p + room_of (length f.content)) (behind_end (p + room_of (length f.content)) fs) + length (joined (cond b fs (after_end fs))) ≡ p + length (bytes_of f ++ joined fs)
      by true z ih = z
      by false z ih = ih ∙ z

  -- what stands at the spot of a type are the data of its first field
  spot_data : (k p : ℕ) (fs : List Stored) → taken_from s p ≡ fs → content_at s (spot_of k p (before_end fs)) ≡ first_data k (before_end fs)
  unfolding spot_of first_data before_end
  spot_data k p [] e = refl
  spot_data k p (f ∷ fs) e =
      let n = taken_next s p f fs e in
      let z : take (length f.content) (drop (p + 5) s) ≡ f.content = rw n.long (ap (λ (x : Stored). x.content) (sym n.is)) in
      by (is_end f) (eqb f.kind k) refl z (spot_data k (p + room_of (length f.content)) fs n.rest)
    where
      by : (a b : Bool) → eqb f.kind k ≡ b → take (length f.content) (drop (p + 5) s) ≡ f.content
          → content_at s (spot_of k (p + room_of (length f.content)) (before_end fs)) ≡ first_data k (before_end fs)
          → content_at s (spot_of k p (cond a [] (f ∷ before_end fs))) ≡ first_data k (cond a [] (f ∷ before_end fs))
      by true b h z ih = refl
      by false true h z ih = rw h z
      by false false h z ih = rw h ih

  pub spot_content : (k p : ℕ) → content_at s (spot_of k p (before_end (taken_from s p))) ≡ first_data k (before_end (taken_from s p))
  spot_content k p = spot_data k p (taken_from s p) refl

-- ---- the sections that are left
-- a field before the first run, or an END
module _ (g : Stored) (fs : List Stored) (v : List Stored) (vs : List (List Stored)) (e : runs (g ∷ fs) ≡ v ∷ vs) where
  pub run_end : is_end g ≡ true → (v ≡ []) × (runs fs ≡ vs)
  unfolding runs
  run_end k = let z : [] ∷ runs fs ≡ v ∷ vs = rw k at e in (cc, cc)

  pub run_field : is_end g ≡ false → (w : List Stored) × (v ≡ g ∷ w) × (runs fs ≡ w ∷ vs)
  unfolding runs
  run_field k =
      let r = some_run fs in
      let z : (g ∷ r.0) ∷ r.1 ≡ v ∷ vs = rw (k, r.2) at e in
      (r.0, cc, r.2 ∙ (let y : r.1 ≡ vs = cc in ap (◌∷◌ r.0) y))

pub run_none : (v : List Stored) (us : List (List Stored)) → runs [] ≡ v ∷ (us ++ ([] ∷ [])) → ⊥
unfolding runs
run_none v us e = omega (arith, ap length e, length-append us ([] ∷ []))

-- at place p of s the walk goes to the end, over the sections us: at place 0 of a body the header and the records
pub record Left (s : List ℕ) (p : ℕ) (us : List (List Stored)) : Type 0 where
  pub reach : p + length (joined (taken_from s p)) ≡ length s
  pub parted : runs (taken_from s p) ≡ us ++ ([] ∷ [])

-- The record at p has the fields u, and after it the sections us are left.
pub record Turn (s : List ℕ) (p : ℕ) (u : List Stored) (us : List (List Stored)) : Type 0 where
  pub here : before_end (taken_from s p) ≡ u
  pub next : (record_at s p).next ≡ p + length (joined u) + 16
  pub left : Left s (record_at s p).next us

module _ (s : List ℕ) where
  first_run : (p : ℕ) (fs u : List Stored) (us : List (List Stored)) → taken_from s p ≡ fs → runs fs ≡ u ∷ (us ++ ([] ∷ []))
      → (before_end fs ≡ u) × (behind_end p fs ≡ p + length (joined u) + 16) × (runs (after_end fs) ≡ us ++ ([] ∷ []))
  unfolding before_end behind_end after_end
  first_run p [] u us e h = absurd (run_none u us h)
  first_run p (f ∷ fs) u us e h = let n = taken_next s p f fs e in by (is_end f) refl n (λ w. first_run (p + room_of (length f.content)) fs w us n.rest)
    where
      by : (b : Bool) → is_end f ≡ b → Next s p f fs
          → ((w : List Stored) → runs fs ≡ w ∷ (us ++ ([] ∷ []))
          → (before_end fs ≡ w) × (behind_end (p + room_of (length f.content)) fs ≡ p + room_of (length f.content) + length (joined w) + 16) × (runs (after_end fs) ≡ us ++ ([] ∷ [])))
          → (cond b [] (f ∷ before_end fs) ≡ u) × (cond b (p + room_of (length f.content)) (behind_end (p + room_of (length f.content)) fs) ≡ p + length (joined u) + 16) × (runs (cond b fs (after_end fs)) ≡ us ++ ([] ∷ []))
      by true k n ih =
          let r = run_end f fs u (us ++ ([] ∷ [])) h k in
          let z : p + 0 + 16 ≡ p + 16 = omega arith in
          (sym r.0, rw (r.0, end_room f n.no_data k, z), r.1)
      by false k n ih =
          let r = run_field f fs u (us ++ ([] ∷ [])) h k in
          let i = ih r.0 r.2 in
          let z : p + room_of (length f.content) + length (joined r.0) + 16 ≡ p + length (bytes_of f ++ joined r.0) + 16 = rw (length-append (bytes_of f) (joined r.0), n.blocks) (omega arith) in
          (ap (◌∷◌ f) i.0 ∙ sym r.1, i.1 ∙ z ∙ ap (λ (w : List Stored). p + length (joined w) + 16) (sym r.1), i.2)

  pub left_turn : (p : ℕ) (u : List Stored) (us : List (List Stored)) → Left s p (u ∷ us) → Turn s p u us
  unfolding record_at
  left_turn p u us l =
      let fs = taken_from s p in
      let r = first_run p fs u us refl l.parted in
      let b = taken_behind s p fs refl in
      record {
        here = r.0;
        next = r.1;
        left = record { reach = ap (λ (x : List Stored). behind_end p fs + length (joined x)) b ∙ behind_long s p fs refl ∙ l.reach; parted = ap runs b ∙ r.2 };
      }

  -- before the end a section is left, and at the end none
  left_before : {p : ℕ} {u : List Stored} {us : List (List Stored)} → Left s p (u ∷ us) → length s ≤ p → ⊥
  left_before {p} {u} {us} l h = run_none u us (ap runs (sym (taken_stop s (inside p) h)) ∙ l.parted)

  pub left_stop : {p : ℕ} → Left s p [] → p ≡ length s
  left_stop {p} l = by (taken_from s p) refl
    where
      more : (f : Stored) (fs : List Stored) → runs (f ∷ fs) ≡ [] ∷ [] → (b : Bool) → is_end f ≡ b → ⊥
      more f fs e true k = let r = some_run fs in omega (arith, ap length (sym r.2 ∙ (run_end f fs [] [] e k).1))
      more f fs e false k = omega (arith, ap length (run_field f fs [] [] e k).1)

      by : (fs : List Stored) → taken_from s p ≡ fs → p ≡ length s
      by [] e = sym (add-zero p) ∙ ap (λ (x : List Stored). p + length (joined x)) (sym e) ∙ l.reach
      by (f ∷ fs) e = absurd (more f fs (ap runs (sym e) ∙ l.parted) (is_end f) refl)

  pub left_some : {p : ℕ} (us : List (List Stored)) → Left s p us → p < length s → (v : List Stored) × (vs : List (List Stored)) × (us ≡ v ∷ vs)
  left_some [] l h = absurd (omega (arith, left_stop l))
  left_some (u ∷ us) l h = (u, us, refl)

  pub left_none : {p : ℕ} (us : List (List Stored)) → Left s p us → length s ≤ p → us ≡ []
  left_none [] l h = refl
  left_none (u ∷ us) l h = absurd (left_before l h)

  pub is_formed : is_well_formed s ≡ true → formed s ≡ true
  unfolding is_well_formed
  is_formed h = (both (formed s) _ h).0

  -- the whole body: the header and the records
  sections_are : formed s ≡ true
      → (exact_from s 0 ≡ true) × (ends_empty (fields_of s) ≡ true)
      × (runs (fields_of s) ≡ header_in (runs (fields_of s)) ∷ (records_in (runs (fields_of s)) ++ ([] ∷ []))) × Each GoodRecord (records_in (runs (fields_of s)))
  unfolding formed
  sections_are h =
      let x = both (exact_from s 0) _ h in
      let y = both (ends_empty (fields_of s)) _ x.1 in
      let z = both (version_first (fields_of s)) _ y.1 in
      let t = sections_in (runs (fields_of s)) z.1 in
      let i : records_in (runs (fields_of s)) ≡ t.1 = in_sections t.0 t.1 (runs (fields_of s)) t.2 in
      (x.0, y.0, t.2 ∙ ap₂ (λ (h : List Stored) (rs : List (List Stored)). h ∷ (rs ++ ([] ∷ []))) (sym (ap header_in t.2)) (sym i), subst (Each GoodRecord) (sym i) t.4)

  pub taken_all : formed s ≡ true → taken_from s 0 ≡ fields_of s
  taken_all h = walkable_all (fields_of s) (sections_are h).1

  -- of a body that divides exactly, with ENDs that are empty, all sections are left at its start
  pub left_whole : (h : List Stored) (rs : List (List Stored)) → exact_from s 0 ≡ true → ends_empty (fields_of s) ≡ true → runs (fields_of s) ≡ h ∷ (rs ++ ([] ∷ [])) → Left s 0 (h ∷ rs)
  left_whole h rs x y e =
      let all : taken_from s 0 ≡ fields_of s = walkable_all (fields_of s) y in
      record { reach = ap (λ (l : List Stored). 0 + length (joined l)) all ∙ eqb-true _ _ x; parted = ap runs all ∙ e }

  pub left_start : formed s ≡ true → Left s 0 (header_in (runs (fields_of s)) ∷ records_in (runs (fields_of s)))
  left_start h = let x = sections_are h in left_whole _ _ x.0 x.1 x.2

  pub good_start : formed s ≡ true → Each GoodRecord (records_in (runs (fields_of s)))
  good_start h = (sections_are h).3
