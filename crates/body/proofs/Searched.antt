-- The search by fields comes to what the definitions say: it finds the first record with the UUID, section by section, and it has then visited the fields up to the deciding one, field by field.
use Rattle.std.proofs.Common.{Option, Some, Result, Ok, Err}
use Prim.Native.Nat.{ℕ, ◌+◌, ◌≤◌}
use mathlib.Core.Path.{◌≡◌, refl, ap, ap₂, ◌∙◌}
use mathlib.Core.Bool.{Bool, true, false, cond, ◌&&◌, ◌||◌}
use mathlib.Core.List.{List, [], ◌∷◌}
use native.Mathlib.Nat.{add-zero, zero-add}
use native.Mathlib.Omega.{arith}
use lib.Dec.{eqb}
use lib.ListN.{length}
use Rattle.words.specs.Each.{Each}
use Rattle.fields.specs.Stored.{Stored, room_of}
use Rattle.body.specs.Division.{joined}
use Rattle.body.specs.Sections.{is_end, runs, count, first_data}
use Rattle.body.specs.WellFormed.{GoodRecord}
use Rattle.body.specs.Decision.{fields_of, taken_from, is_well_formed, header_in, records_in, not_well_formed}
use Rattle.body.specs.RecordAt.{before_end, behind_end, record_at}
use Rattle.body.specs.Find.{at_place, is_uuid, has, first_with, sought_in, is_match, visited_in, find_of}
use Rattle.body.specs.Search.{at_record, visit_of, searched}
use Rattle.body.specs.declared.NotWellFormed.{NotWellFormed}
use Rattle.body.specs.declared.Place.{Place}
use Rattle.body.specs.declared.Found.{Found}
use Rattle.body.specs.declared.search.Progress.{Progress}
use Rattle.body.proofs.Along.{taken_stop}
use Rattle.body.proofs.Sectioned.{end_no_uuid, inside, after_end, taken_behind, Left, left_start, left_turn, left_stop, good_start, taken_all, is_formed}

abbrev Answer : Type 0
Answer = Result (Option Place) NotWellFormed

inside_ok : (b : Bool) (x y : Option Place) → ◌≡◌ {A = Answer} (cond b (Ok x) (Ok y)) (Ok (cond b x y))
inside_ok true x y = refl
inside_ok false x y = refl

none_first : (u : List Stored) → count 0x01 u ≤ 0 → first_data 0x01 u ≡ []
unfolding first_data
none_first [] h = refl
none_first (f ∷ u) h = by (eqb f.kind 0x01) h (none_first u)
  where
    by : (t : Bool) → cond t 1 0 + count 0x01 u ≤ 0 → (count 0x01 u ≤ 0 → first_data 0x01 u ≡ []) → cond t f.content (first_data 0x01 u) ≡ []
    by true h ih = absurd (omega arith)
    by false h ih = ih (omega arith)

module _ (a b : ℕ) where
  empty_no_uuid : is_uuid [] a b ≡ false
  unfolding is_uuid
  empty_no_uuid = refl

  -- ---- the count
  pub counted : (x : Progress) (r : Bool) (q : ℕ) (fs : List Stored) → (searched a b x r q fs).visited ≡ x.visited + length (visited_in a b r fs)
  unfolding searched visited_in
  counted x r q [] = omega arith
  counted x r q (f ∷ fs) =
      let n = q + room_of (length f.content) in
      by (is_match a b r f.kind f.content) _ _ (counted (visit_of x r f.kind n) (r || is_end f) n fs)
    where
      by : (m : Bool) (y : Found) (v : List Stored) → y.visited ≡ x.visited + 1 + length v
          → (cond m (record { sought = Ok (Some x.at); visited = x.visited + 1 }) y).visited ≡ x.visited + length (f ∷ cond m [] v)
      by true y v ih = omega arith
      by false y v ih = omega (arith, ih)

  -- ---- what is found
  -- it does not depend on the count
  alike : (x y : Progress) (r : Bool) (q : ℕ) (fs : List Stored) → x.at.number ≡ y.at.number → x.at.place ≡ y.at.place
      → (searched a b x r q fs).sought ≡ (searched a b y r q fs).sought
  unfolding searched
  alike x y r q [] i j = refl
  alike x y r q (f ∷ fs) i j =
      let n = q + room_of (length f.content) in
      by (is_match a b r f.kind f.content) _ _
      (alike (visit_of x r f.kind n) (visit_of y r f.kind n) (r || is_end f) n fs
      (ap (λ (m : ℕ). m + cond (eqb f.kind 0xff) (cond r 1 0) 0) i) (ap (λ (m : ℕ). cond (eqb f.kind 0xff) n m) j))
    where
      by : (m : Bool) (c d : Found) → c.sought ≡ d.sought
          → (cond m (record { sought = Ok (Some x.at); visited = x.visited + 1 }) c).sought ≡ (cond m (record { sought = Ok (Some y.at); visited = y.visited + 1 }) d).sought
      by true c d ih = ap₂ (λ (n p : ℕ). Ok (Some (at_place n p))) i j
      by false c d ih = ih

  -- in record n, which starts at place p
  abbrev at : ℕ → ℕ → Progress
  at n p = at_record n p 0

  -- from place q on, where the fields fs are next: the rest of the header, and the records behind it
  header : (p q : ℕ) (fs : List Stored)
      → (searched a b (at 0 p) false q fs).sought ≡ (searched a b (at 0 (behind_end q fs)) true (behind_end q fs) (after_end fs)).sought
  unfolding searched behind_end after_end
  header p q [] = refl
  header p q (f ∷ fs) = let n = q + room_of (length f.content) in by n (is_end f) refl (header p n fs)
    where
      by : (n : ℕ) (e : Bool) → is_end f ≡ e
          → (searched a b (at 0 p) false n fs).sought ≡ (searched a b (at 0 (behind_end n fs)) true (behind_end n fs) (after_end fs)).sought
          → (searched a b (visit_of (at 0 p) false f.kind n) (is_end f) n fs).sought
          ≡ (searched a b (at 0 (cond e n (behind_end n fs))) true (cond e n (behind_end n fs)) (cond e fs (after_end fs))).sought
      by n true h ih = rw h (alike _ _ true n fs refl refl)
      by n false h ih = rw h (alike _ _ false n fs refl refl ∙ ih)

  -- a field f of record n, and behind it the fields fs, from place m on
  module _ (n p m : ℕ) (f : Stored) (fs : List Stored) where
    -- the records behind this one
    abbrev behind : Answer
    behind = (searched a b (at (n + 1) (behind_end m fs)) true (behind_end m fs) (after_end fs)).sought

    -- the rest of the record
    abbrev Rest : Type 0
    Rest = count 0x01 (before_end fs) ≤ 1 → (searched a b (at n p) true m fs).sought ≡ cond (has a b (before_end fs)) (Ok (Some (at_place n p))) behind

    passed : is_end f ≡ false → (searched a b (visit_of (at n p) true f.kind m) true m fs).sought ≡ (searched a b (at n p) true m fs).sought
    passed e = alike (visit_of (at n p) true f.kind m) (at n p) true m fs (rw (e, add-zero n)) (rw e)

    field : is_end f ≡ false → Rest → (u v : Bool) → is_uuid f.content a b ≡ v → cond u 1 0 + count 0x01 (before_end fs) ≤ 1
        → (cond (u && v) (record { sought = Ok (Some (at_place n p)); visited = 1 }) (searched a b (visit_of (at n p) true f.kind m) true m fs)).sought
        ≡ cond (is_uuid (cond u f.content (first_data 0x01 (before_end fs))) a b) (Ok (Some (at_place n p))) behind
    field e ih true true j h = rw j
    field e ih true false j h =
        let none : has a b (before_end fs) ≡ false = ap (λ (d : List ℕ). is_uuid d a b) (none_first (before_end fs) (omega arith)) ∙ empty_no_uuid in
        rw j (passed e ∙ ih (omega arith) ∙ ap (λ (t : Bool). cond t (Ok (Some (at_place n p))) behind) none)
    field e ih false v j h = passed e ∙ ih (omega arith)

    step : (e : Bool) → is_end f ≡ e → count 0x01 (cond e [] (f ∷ before_end fs)) ≤ 1 → Rest
        → (cond (is_match a b true f.kind f.content) (record { sought = Ok (Some (at_place n p)); visited = 1 }) (searched a b (visit_of (at n p) true f.kind m) true m fs)).sought
        ≡ cond (has a b (cond e [] (f ∷ before_end fs))) (Ok (Some (at_place n p)))
        (searched a b (at (n + 1) (cond e m (behind_end m fs))) true (cond e m (behind_end m fs)) (cond e fs (after_end fs))).sought
    unfolding first_data
    step true e h ih = rw (end_no_uuid f e, empty_no_uuid) (alike (visit_of (at n p) true f.kind m) (at (n + 1) m) true m fs (rw e) (rw e))
    step false e h ih = field e ih (eqb f.kind 0x01) (is_uuid f.content a b) refl h

  -- the rest of a record, of which one field at the most is a UUID, and the records behind it
  section : (n p q : ℕ) (fs : List Stored) → count 0x01 (before_end fs) ≤ 1
      → (searched a b (at n p) true q fs).sought
      ≡ cond (has a b (before_end fs)) (Ok (Some (at_place n p))) (searched a b (at (n + 1) (behind_end q fs)) true (behind_end q fs) (after_end fs)).sought
  unfolding searched before_end behind_end after_end is_uuid first_data
  section n p q [] h = refl
  section n p q (f ∷ fs) h = let m = q + room_of (length f.content) in step n p m f fs (is_end f) refl h (section n p m fs)

  module _ (s : List ℕ) where
    -- where the records rs are left
    records : (n p : ℕ) (rs : List (List Stored)) → Left s p rs → Each GoodRecord rs → (searched a b (at n p) true p (taken_from s p)).sought ≡ Ok (first_with a b n p rs)
    unfolding first_with record_at searched
    records n p [] l g =
        let e : taken_from s p ≡ [] = taken_stop s (inside p) (omega (arith, left_stop s l)) in
        ap (λ (fs : List Stored). (searched a b (at n p) true p fs).sought) e
    records n p (u ∷ us) l g =
        let t = left_turn s p u us l in
        let fs = taken_from s p in
        let q = p + length (joined u) + 16 in
        let next : behind_end p fs ≡ q = t.next in
        let few : count 0x01 (before_end fs) ≤ 1 = rw t.here (omega (arith, g.0.uuid.once)) in
        let rest : (searched a b (at (n + 1) (behind_end p fs)) true (behind_end p fs) (after_end fs)).sought ≡ Ok (first_with a b (n + 1) q us) =
        rw (← taken_behind s p fs refl, next) (records (n + 1) q us (rw (← next) t.left) g.1) in
        section n p p fs few ∙ ap₂ (λ (v : List Stored) (y : Answer). cond (has a b v) (Ok (Some (at_place n p))) y) t.here rest
        ∙ inside_ok (has a b u) (Some (at_place n p)) (first_with a b (n + 1) q us)

    -- the whole body
    module _ (w : is_well_formed s ≡ true) where
      abbrev fs : List Stored
      fs = taken_from s 0

      sought_is : (searched a b (at_record 0 0 0) false 0 fs).sought ≡ Ok (sought_in a b (runs (fields_of s)))
      unfolding record_at
      sought_is =
          let t = left_turn s 0 _ _ (left_start s (is_formed s w)) in
          let h = header_in (runs (fields_of s)) in
          let next : behind_end 0 fs ≡ length (joined h) + 16 = t.next ∙ ap (λ (x : ℕ). x + 16) (zero-add (length (joined h))) in
          header 0 0 fs
          ∙ rw (← taken_behind s 0 fs refl, next) (records 0 (length (joined h) + 16) (records_in (runs (fields_of s))) (rw (← next) t.left) (good_start s (is_formed s w)))

      visited_is : (searched a b (at_record 0 0 0) false 0 fs).visited ≡ length (visited_in a b false (fields_of s))
      visited_is = counted (at_record 0 0 0) false 0 fs ∙ zero-add (length (visited_in a b false fs)) ∙ ap (λ (l : List Stored). length (visited_in a b false l)) (taken_all s (is_formed s w))

      pub found_is : searched a b (at_record 0 0 0) false 0 fs ≡ find_of s a b
      unfolding find_of
      found_is = rw w (ap₂ (λ (x : Answer) (n : ℕ). record { sought = x; visited = n }) sought_is visited_is)

    pub found_not : is_well_formed s ≡ false → record { sought = Err not_well_formed; visited = 0 } ≡ find_of s a b
    unfolding find_of
    found_not h = rw h
