-- What the answer of a call of `find` says of the 16 bytes that are sought: the search over the records stops at the first that has them, by recursion on the records; and where the
-- sections before a record are passed, the walk stands at its first field.
use Rattle.std.proofs.Common.{Option, Some, None, Result, Ok, Err}
use Prim.Native.Nat.{ℕ, ◌+◌, ◌<◌}
use mathlib.Core.Path.{◌≡◌, refl, sym, ap, subst, ◌∙◌}
use mathlib.Core.Bool.{Bool, true, false, cond, false≢true}
use mathlib.Core.List.{List, [], ◌∷◌, ◌++◌}
use mathlib.Core.Logic.{⊎_elim}
use native.Mathlib.Nat.{add-zero, zero-add, eq-or-lt_of_le}
use native.Mathlib.Omega.{arith}
use lib.Dec.{eqb}
use lib.ListN.{length, get_or, take, drop, length-append}
use lib.Seq.{get_or_at}
use Rattle.words.specs.Each.{Each}
use Rattle.words.proofs.EachLaws.{each_middle, each_front, each_at}
use Rattle.words.proofs.Either.{lt_or_ge}
use Rattle.words.specs.Numbers.{number_low, Bytes, none, Sized}
use Rattle.fields.specs.Stored.{Stored}
use Rattle.fields.specs.Value.{value_of}
use Rattle.fields.specs.Step.{len_at, kind_at, data_at, after}
use Rattle.fields.specs.Walk.{field_by, walk_of}
use Rattle.fields.specs.declared.Field.{Field}
use Rattle.fields.proofs.Valued.{valued}
use Rattle.fields.proofs.Back.{shown}
use Rattle.body.specs.Division.{Whole, joined}
use Rattle.body.specs.Sections.{is_end, push, runs, count, first_data}
use Rattle.body.specs.WellFormed.{GoodRecord, uuid_of, WellFormed}
use Rattle.body.specs.Decision.{taken_from, is_well_formed, not_well_formed}
use Rattle.body.specs.RecordAt.{before_end}
use Rattle.body.specs.Find.{at_place, has, first_with, find_of, place_behind, HasUuid, FoundAt, Says}
use Rattle.body.specs.declared.NotWellFormed.{NotWellFormed}
use Rattle.body.specs.declared.Place.{Place}
use Rattle.body.specs.declared.Found.{Found}
use Rattle.body.proofs.Decided.{well_formed, decides, header_is, records_are}
use Rattle.body.proofs.Answers.{find_is}
use Rattle.body.proofs.Halves.{has_bytes, has_not}
use Rattle.body.proofs.Sectioned.{inside, Next, taken_next, Left, left_start, left_turn, is_formed}

-- ---- the search
-- the first of the records rs that has the UUID of halves a and b
record First (a b n p : ℕ) (rs : List (List Stored)) (m q : ℕ) : Type 0 where
  before : List (List Stored)
  found : List Stored
  others : List (List Stored)
  parts : rs ≡ before ++ (found ∷ others)
  number : m ≡ n + length before
  place : q ≡ p + place_behind before
  it : has a b found ≡ true

module _ (a b : ℕ) where
  first_at : (n p : ℕ) (rs : List (List Stored)) (m q : ℕ) → first_with a b n p rs ≡ Some (at_place m q) → First a b n p rs m q
  unfolding first_with
  first_at n p [] m q e = absurd (cc)
  first_at n p (r ∷ rs) m q e = by (has a b r) refl e (first_at (n + 1) (p + length (joined r) + 16) rs m q)
    where
      by : (t : Bool) → has a b r ≡ t → cond t (Some (at_place n p)) (first_with a b (n + 1) (p + length (joined r) + 16) rs) ≡ Some (at_place m q)
          → (first_with a b (n + 1) (p + length (joined r) + 16) rs ≡ Some (at_place m q) → First a b (n + 1) (p + length (joined r) + 16) rs m q) → First a b n p (r ∷ rs) m q
      by true h e ih =
          let z : at_place n p ≡ at_place m q = cc in
          let i : m ≡ n = ap (λ (x : Place). x.number) (sym z) in
          let j : q ≡ p = ap (λ (x : Place). x.place) (sym z) in
          record { before = []; found = r; others = rs; parts = refl; number = omega arith; place = omega arith; it = h }
      by false h e ih =
          let x = ih e in
          record {
            before = r ∷ x.before;
            found = x.found;
            others = x.others;
            parts = ap (◌∷◌ r) x.parts;
            number = omega (arith, x.number);
            place = omega (arith, x.place);
            it = x.it;
          }

  first_none : (n p : ℕ) (rs : List (List Stored)) → first_with a b n p rs ≡ None → Each (λ r. has a b r ≡ false) rs
  unfolding first_with
  first_none n p [] e = tt
  first_none n p (r ∷ rs) e = by (has a b r) refl e (first_none (n + 1) (p + length (joined r) + 16) rs)
    where
      by : (t : Bool) → has a b r ≡ t → cond t (Some (at_place n p)) (first_with a b (n + 1) (p + length (joined r) + 16) rs) ≡ None
          → (first_with a b (n + 1) (p + length (joined r) + 16) rs ≡ None → Each (λ r. has a b r ≡ false) rs) → Each (λ r. has a b r ≡ false) (r ∷ rs)
      by true h e ih = absurd (cc)
      by false h e ih = (h, ih e)

none_has : (uuid : List ℕ) → Sized 16 uuid → (rs : List (List Stored)) → Each (λ r. has (number_low (take 8 uuid)) (number_low (take 8 (drop 8 uuid))) r ≡ false) rs
    → Each (λ r. HasUuid uuid r → ⊥) rs
none_has uuid y [] h = tt
none_has uuid y (r ∷ rs) h = (has_not uuid y (first_data 0x01 r) h.0, none_has uuid y rs h.1)

-- ---- the record
-- its data are bytes
pub first_bytes : (k : ℕ) (u : List Stored) → Each Whole u → Bytes (first_data k u)
unfolding first_data
first_bytes k [] w = none
first_bytes k (f ∷ u) w = by (eqb f.kind k) (first_bytes k u w.1)
  where
    by : (t : Bool) → Bytes (first_data k u) → Bytes (cond t f.content (first_data k u))
    by true h = w.0.content
    by false h = h

runs_whole : (fs : List Stored) → Each Whole fs → Each (λ u. Each Whole u) (runs fs)
unfolding runs
runs_whole [] w = (tt, tt)
runs_whole (f ∷ fs) w = by (is_end f) (runs fs) (runs_whole fs w.1)
  where
    by : (t : Bool) (us : List (List Stored)) → Each (λ u. Each Whole u) us → Each (λ u. Each Whole u) (cond t ([] ∷ us) (push f us))
    by true us h = (tt, h)
    by false [] h = ((w.0, tt), tt)
    by false (u ∷ us) h = ((w.0, h.0), h.1)

pub records_whole : (s : List ℕ) (w : WellFormed s) → Each (λ u. Each Whole u) w.records
records_whole s w =
    let whole : Each (λ u. Each Whole u) (w.header ∷ (w.records ++ ([] ∷ []))) = subst (Each (λ u. Each Whole u)) w.sections (runs_whole w.fields w.divides.whole) in
    each_front (λ u. Each Whole u) w.records ([] ∷ []) whole.1

-- the walk behind the sections before it
left_behind : (s : List ℕ) (p : ℕ) (before : List (List Stored)) (u : List Stored) (us : List (List Stored)) → Left s p (before ++ (u ∷ us)) → Left s (p + place_behind before) (u ∷ us)
left_behind s p [] u us l = rw (add-zero p) l
left_behind s p (v ∷ before) u us l =
    let t = left_turn s p v (before ++ (u ∷ us)) l in
    let z : p + length (joined v) + 16 + place_behind before ≡ p + (length (joined v) + 16 + place_behind before) = omega arith in
    rw (← z) (left_behind s (p + length (joined v) + 16) before u us (subst (λ (q : ℕ). Left s q (before ++ (u ∷ us))) t.next t.left))

-- at a record's place the walk takes its first field
pub record FirstField (s : List ℕ) (p : ℕ) (u : List Stored) : Type 0 where
  field : Stored
  rest : List Stored
  fields : u ≡ field ∷ rest
  taken : walk_of s (inside p) ≡ Ok (Some (shown value_of true p field, after s (inside p)))

first_field : (s : List ℕ) (p : ℕ) (u : List Stored) (us : List (List Stored)) → Left s p (u ∷ us) → count 0x01 u ≡ 1 → FirstField s p u
unfolding before_end
first_field s p u us l c = by (taken_from s p) refl (left_turn s p u us l).here
  where
    shows : (f : Stored) (fs : List Stored) → Next s p f fs → field_by value_of s (inside p) (kind_at s p) (len_at s p) ≡ shown value_of true p f
    shows f fs n =
        let k : kind_at s p ≡ f.kind = ap (λ (x : Stored). x.kind) (sym n.is) in
        let d : data_at s p ≡ f.content = ap (λ (x : Stored). x.content) (sym n.is) in
        rw (k, d, sym n.long)

    by : (fs : List Stored) → taken_from s p ≡ fs → before_end fs ≡ u → FirstField s p u
    by [] e h = absurd (omega (arith, ap (count 0x01) h, c))
    by (f ∷ fs) e h = end (is_end f) h (taken_next s p f fs e)
      where
        end : (t : Bool) → cond t [] (f ∷ before_end fs) ≡ u → Next s p f fs → FirstField s p u
        end true h n = absurd (omega (arith, ap (count 0x01) h, c))
        end false h n =
            record { field = f; rest = before_end fs; fields = sym h; taken = valued value_of s (inside p) _ n.walks ∙ ap (λ (x : Field). Ok (Some (x, after s (inside p)))) (shows f fs n) }

-- two records with one UUID are one, since those of different records differ
module _ (rs : List (List Stored)) (d : (i j : ℕ) → i < j → j < length rs → uuid_of (get_or rs i []) ≡ uuid_of (get_or rs j []) → ⊥) where
  one_number : (i j : ℕ) → i < length rs → j < length rs → uuid_of (get_or rs i []) ≡ uuid_of (get_or rs j []) → i ≡ j
  one_number i j h g e = ⊎_elim (λ l. absurd (d i j l g e)) (λ l. ⊎_elim (λ q. sym q) (λ q. absurd (d j i q h (sym e))) (eq-or-lt_of_le l)) (lt_or_ge i j)

  only_one : {uuid : List ℕ} (before : List (List Stored)) (u : List Stored) (others : List (List Stored)) → rs ≡ before ++ (u ∷ others) → (n : ℕ) → n ≡ length before → HasUuid uuid u
      → (i : ℕ) → i < length rs → HasUuid uuid (get_or rs i []) → i ≡ n
  only_one before u others e n k h i l g =
      let m : n < length rs = omega (arith, ap length e, length-append before (u ∷ others), k) in
      one_number i n l m (g ∙ sym (ap uuid_of (ap (λ (x : List (List Stored)). get_or x n []) e ∙ get_or_at before u others [] n (sym k)) ∙ h))

-- ---- the call
module _ (s uuid : List ℕ) (y : Sized 16 uuid) (x : Bytes s) where
  abbrev answer : Result (Option Place) NotWellFormed
  answer = (find_of s (number_low (take 8 uuid)) (number_low (take 8 (drop 8 uuid)))).sought

  module _ (w : WellFormed s) where
    searched : answer ≡ Ok (first_with (number_low (take 8 uuid)) (number_low (take 8 (drop 8 uuid))) 0 (length (joined w.header) + 16) w.records)
    searched = ap (λ (f : Found). f.sought) (find_is s (number_low (take 8 uuid)) (number_low (take 8 (drop 8 uuid))) w)

    sections : Left s 0 (w.header ∷ w.records)
    sections = rw (← header_is s w, ← records_are s w) (left_start s (is_formed s (decides s w)))

    found_at : (n p : ℕ) → answer ≡ Ok (Some (at_place n p)) → FoundAt s uuid n p
    found_at n p e =
        let a = number_low (take 8 uuid) in
        let b = number_low (take 8 (drop 8 uuid)) in
        let t = first_at a b 0 (length (joined w.header) + 16) w.records n p (let z = sym searched ∙ e in cc) in
        let place : p ≡ place_behind (w.header ∷ t.before) = t.place in
        let u = t.found in
        let bytes = first_bytes 0x01 u (each_middle (λ u. Each Whole u) t.before u t.others (subst (Each (λ u. Each Whole u)) t.parts (records_whole s w))) in
        let good : GoodRecord u = each_middle GoodRecord t.before u t.others (subst (Each GoodRecord) t.parts w.mandatory) in
        let left : Left s (0 + place_behind (w.header ∷ t.before)) (u ∷ t.others) = left_behind s 0 (w.header ∷ t.before) u t.others (subst (λ (rs : List (List Stored)). Left s 0 (w.header ∷ rs)) t.parts sections) in
        let f = first_field s p u t.others (subst (λ (q : ℕ). Left s q (u ∷ t.others)) (zero-add _ ∙ sym place) left) good.uuid.once in
        record {
          well_formed = w;
          before = t.before;
          found = u;
          others = t.others;
          records = t.parts;
          number = t.number ∙ zero-add (length t.before);
          has_it = has_bytes uuid y (first_data 0x01 u) bytes t.it;
          only = λ i l g. only_one w.records w.uuids t.before u t.others t.parts n (t.number ∙ zero-add (length t.before)) (has_bytes uuid y (first_data 0x01 u) bytes t.it) i l g;
          place = place;
          field = f.field;
          rest = f.rest;
          fields = f.fields;
          next = after s (inside p);
          taken = f.taken;
        }

  by_answer : (v : Result (Option Place) NotWellFormed) → answer ≡ v → Says s uuid v
  unfolding find_of
  by_answer v e = by (is_well_formed s) refl
    where
      by : (t : Bool) → is_well_formed s ≡ t → Says s uuid v
      by true h = formed ((well_formed s x).0 h) v e
        where
          formed : (w : WellFormed s) (v : Result (Option Place) NotWellFormed) → answer ≡ v → Says s uuid v
          formed w (Ok (Some x)) e = found_at w x.number x.place e
          formed w (Ok None) e = (w, none_has uuid y w.records (first_none _ _ 0 (length (joined w.header) + 16) w.records (let z = sym (searched w) ∙ e in cc)))
          formed w (Err x) e = absurd (let z = sym (searched w) ∙ e in cc)
      by false h =
          let z : v ≡ Err not_well_formed = sym e ∙ rw h in
          rw z (λ w. false≢true (sym h ∙ decides s w))

-- a call of `find` with the halves of 16 bytes, taken by its contract
pub find_says : (s uuid : List ℕ) (r : Found) → Sized 16 uuid
    → (r ≡ find_of s (number_low (take 8 uuid)) (number_low (take 8 (drop 8 uuid)))) × Bytes s
    → Says s uuid r.sought
find_says s uuid r y c = by_answer s uuid y c.1 r.sought (ap (λ (f : Found). f.sought) (sym c.0))

-- and a record that has the UUID is the one that it finds
pub find_only : (s uuid : List ℕ) (r : Found) → Sized 16 uuid
    → (r ≡ find_of s (number_low (take 8 uuid)) (number_low (take 8 (drop 8 uuid)))) × Bytes s
    → (w : WellFormed s) (i : ℕ) → i < length w.records → HasUuid uuid (get_or w.records i []) → (p : ℕ) × (r.sought ≡ Ok (Some (at_place i p)))
find_only s uuid r y c w i l h = by r.sought refl (find_says s uuid r y c)
  where
    same : (v : WellFormed s) → w.records ≡ v.records
    same v = sym (records_are s w) ∙ records_are s v

    by : (v : Result (Option Place) NotWellFormed) → r.sought ≡ v → Says s uuid v → (p : ℕ) × (r.sought ≡ Ok (Some (at_place i p)))
    by (Ok (Some x)) e f =
        let rs : w.records ≡ f.well_formed.records = same f.well_formed in
        let q : i ≡ x.number = f.only i (omega (arith, ap length rs)) (subst (λ (x : List (List Stored)). HasUuid uuid (get_or x i [])) rs h) in
        (x.place, e ∙ ap (λ (k : ℕ). Ok (Some (at_place k x.place))) (sym q))
    by (Ok None) e f = absurd (each_at (λ u. HasUuid uuid u → ⊥) f.0.records [] f.1 i (omega (arith, ap length (same f.0))) (subst (λ (x : List (List Stored)). HasUuid uuid (get_or x i [])) (same f.0) h))
    by (Err x) e f = absurd (f w)
