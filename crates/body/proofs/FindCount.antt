-- What the count of a call of `find` says: it is that of the fields up to the deciding one, at most the body's length divided by 16, and 0 with 9; by what the search ends at (Deciding), read over 16 bytes.
use Rattle.std.proofs.Common.{Option, Some, None, Result, Ok, Err}
use Prim.Native.Nat.{ℕ, ◌+◌, ◌*◌, ◌/◌, ◌≤◌}
use mathlib.Core.Path.{◌≡◌, refl, sym, ap, subst, ◌∙◌}
use mathlib.Core.Bool.{Bool, true, false, cond, ◌||◌, false≢true}
use mathlib.Core.Logic.{◌⊎◌, inl, inr}
use mathlib.Core.List.{List, [], ◌∷◌, ◌++◌}
use native.Mathlib.Omega.{arith}
use lib.Dec.{eqb}
use lib.ListN.{length, length-append}
use borrow.Author.Tests.{eqb-true, eq-eqb}
use Rattle.words.specs.Each.{Each}
use Rattle.words.specs.Numbers.{Bytes, Sized}
use Rattle.words.proofs.EachLaws.{both, and, each_middle, each_front}
use Rattle.fields.specs.Stored.{Stored, bytes_of}
use Rattle.body.specs.Division.{Whole, joined}
use Rattle.body.specs.Sections.{is_end, runs, count}
use Rattle.body.specs.WellFormed.{VersionFirst, WellFormed}
use Rattle.body.specs.Decision.{is_well_formed, not_well_formed}
use Rattle.body.specs.Find.{at_place, is_match, visited_in, find_of, find_number}
use Rattle.body.specs.Search.{at_record, searched}
use Rattle.body.specs.Visited.{Matches, LastEnd, NoMatch, Decides, UpTo, Visited}
use Rattle.body.specs.declared.NotWellFormed.{NotWellFormed}
use Rattle.body.specs.declared.Place.{Place}
use Rattle.body.specs.declared.Found.{Found}
use Rattle.body.proofs.Decided.{well_formed, decides, fields_are}
use Rattle.body.proofs.Sectioned.{taken_all, is_formed, run_end, run_field, run_none}
use Rattle.body.proofs.Verdict.{some_run}
use Rattle.body.proofs.Searched.{found_is, found_not}
use Rattle.body.proofs.Answers.{find_is, find_numbers_lem}
use Rattle.body.proofs.Halves.{low, high, has_bytes, has_itself}
use Rattle.body.proofs.Deciding.{ended, matches, Unmatched, up_to, same_search, Ends, ends}

-- ---- the match as a test
ended_some : (u : List Stored) → (ended u ≡ true → 1 ≤ count 0xff u) × (1 ≤ count 0xff u → ended u ≡ true)
unfolding ended
ended_some [] = (λ h. absurd (false≢true h), λ h. absurd (omega arith))
ended_some (f ∷ u) = by (is_end f) (ended_some u)
  where
    by : (e : Bool) → (ended u ≡ true → 1 ≤ count 0xff u) × (1 ≤ count 0xff u → ended u ≡ true)
        → ((e || ended u) ≡ true → 1 ≤ cond e 1 0 + count 0xff u) × (1 ≤ cond e 1 0 + count 0xff u → (e || ended u) ≡ true)
    by true ih = (λ h. omega arith, λ h. refl)
    by false ih = (λ h. omega (arith, ih.0 h), λ h. ih.1 (omega arith))

module _ (uuid : List ℕ) (y : Sized 16 uuid) where
  match_says : (u : List Stored) (f : Stored) → Bytes f.content → matches (low uuid) (high uuid) false u f ≡ true → Matches uuid u f
  match_says u f x h =
      let i = both (ended u) _ h in
      let j = both (eqb f.kind 0x01) _ i.1 in
      record { in_record = (ended_some u).0 i.0; kind = eqb-true _ _ j.0; bytes = has_bytes uuid y f.content x j.1 }

  match_test : (u : List Stored) (f : Stored) → Matches uuid u f → matches (low uuid) (high uuid) false u f ≡ true
  match_test u f m =
      and (ended u) _ ((ended_some u).1 m.in_record) (and (eqb f.kind 0x01) _ (eq-eqb _ _ m.kind) (has_itself uuid y f.content m.bytes))

  unmatched_says : (fs : List Stored) → Unmatched (low uuid) (high uuid) false fs → NoMatch uuid fs
  unmatched_says fs h u f v e m = false≢true (sym (h u f v e) ∙ match_test u f m)

  unmatched_test : (fs : List Stored) → Each Whole fs → NoMatch uuid fs → Unmatched (low uuid) (high uuid) false fs
  unmatched_test fs w h u f v e = by (matches (low uuid) (high uuid) false u f) refl
    where
      by : (t : Bool) → matches (low uuid) (high uuid) false u f ≡ t → t ≡ false
      by true k = absurd (h u f v e (match_says u f (each_middle Whole u f v (subst (Each Whole) e w)).content k))
      by false k = refl

-- ---- the last field of a well-formed body is an END
last_end : (fs : List Stored) (f : Stored) (us : List (List Stored)) → runs (fs ++ (f ∷ [])) ≡ us ++ ([] ∷ []) → is_end f ≡ true
last_end [] f us e = by us e (is_end f) refl
  where
    by : (us : List (List Stored)) → runs (f ∷ []) ≡ us ++ ([] ∷ []) → (t : Bool) → is_end f ≡ t → t ≡ true
    by us e true k = refl
    by [] e false k = absurd (omega (arith, ap length (run_field f [] [] [] e k).1))
    by (u ∷ us) e false k = let r = run_field f [] u (us ++ ([] ∷ [])) e k in absurd (run_none r.0 us r.2)
last_end (g ∷ fs) f us e = by us e (is_end g) refl (last_end fs f)
  where
    by : (us : List (List Stored)) → runs (g ∷ (fs ++ (f ∷ []))) ≡ us ++ ([] ∷ []) → (t : Bool) → is_end g ≡ t
        → ((vs : List (List Stored)) → runs (fs ++ (f ∷ [])) ≡ vs ++ ([] ∷ []) → is_end f ≡ true) → is_end f ≡ true
    by [] e true k ih = let r = some_run (fs ++ (f ∷ [])) in absurd (omega (arith, ap length (sym r.2 ∙ (run_end g (fs ++ (f ∷ [])) [] [] e k).1)))
    by [] e false k ih = absurd (omega (arith, ap length (run_field g (fs ++ (f ∷ [])) [] [] e k).1))
    by (u ∷ us) e true k ih = ih us (run_end g (fs ++ (f ∷ [])) u (us ++ ([] ∷ [])) e k).1
    by (u ∷ us) e false k ih = let r = run_field g (fs ++ (f ∷ [])) u (us ++ ([] ∷ [])) e k in ih (r.0 ∷ us) r.2

-- ---- each field takes a block at the least
blocks : (fs : List Stored) → Each Whole fs → 16 * length fs ≤ length (joined fs)
blocks [] w = omega arith
blocks (f ∷ fs) w = rw (length-append (bytes_of f) (joined fs)) (omega (arith, w.0.blocks, blocks fs w.1))

visited_few : (a b : ℕ) (r : Bool) (fs : List Stored) → length (visited_in a b r fs) ≤ length fs
unfolding visited_in
visited_few a b r [] = omega arith
visited_few a b r (f ∷ fs) = by (is_match a b r f.kind f.content) _ (visited_few a b (r || is_end f) fs)
  where
    by : (m : Bool) (v : List Stored) → length v ≤ length fs → length (f ∷ cond m [] v) ≤ length (f ∷ fs)
    by true v ih = omega arith
    by false v ih = omega (arith, ih)

-- ---- the call, taken by its contract
module _ (s uuid : List ℕ) (r : Found) (y : Sized 16 uuid) (c : (r ≡ find_of s (low uuid) (high uuid)) × Bytes s) where
  abbrev a : ℕ
  a = low uuid

  abbrev b : ℕ
  b = high uuid

  module _ (w : WellFormed s) where
    visited_is : r.visited ≡ length (visited_in a b false w.fields)
    visited_is = ap (λ (x : Found). x.visited) (c.0 ∙ find_is s a b w)

    -- the count is that of the fields up to the deciding one, whichever decides
    pub count_exactly : (before : List Stored) (f : Stored) (behind : List Stored) → w.fields ≡ before ++ (f ∷ behind) → Decides uuid before f behind
        → r.visited ≡ length before + 1
    count_exactly before f behind e d =
        let whole = each_front Whole before (f ∷ behind) (subst (Each Whole) e w.divides.whole) in
        visited_is ∙ ap (λ (fs : List Stored). length (visited_in a b false fs)) e
        ∙ up_to a b false before f behind (unmatched_test uuid y before whole d.not_before) (by d.is)
      where
        by : Matches uuid before f ⊎ LastEnd f behind → (matches a b false before f ≡ true) ⊎ (behind ≡ [])
        by (inl m) = inl (match_test uuid y before f m)
        by (inr l) = inr l.1

    search_is : r ≡ searched a b (at_record 0 0 0) false 0 w.fields
    search_is = c.0 ∙ sym (found_is a b s (decides s w)) ∙ ap (searched a b (at_record 0 0 0) false 0) (taken_all s (is_formed s (decides s w)) ∙ fields_are s w)

    ends_so : Ends a b (at_record 0 0 0) false w.fields r.sought
    ends_so = rw (ap (λ (x : Found). x.sought) search_is) (by w.fields w.version)
      where
        by : (fs : List Stored) → VersionFirst fs → Ends a b (at_record 0 0 0) false fs (searched a b (at_record 0 0 0) false 0 fs).sought
        by [] v = absurd v
        by (f ∷ fs) v = ends a b (at_record 0 0 0) false 0 f fs

    abbrev t : Ends a b (at_record 0 0 0) false w.fields r.sought
    t = ends_so

    up : (Is : List Stored → Stored → List Stored → Type 0) → Is t.before t.deciding t.behind → Matches uuid t.before t.deciding ⊎ LastEnd t.deciding t.behind
        → UpTo s uuid r.visited Is
    up Is i m =
        let n = unmatched_says uuid y t.before t.none in
        record {
          well_formed = w;
          before = t.before;
          deciding = t.deciding;
          behind = t.behind;
          fields = t.parts;
          not_before = n;
          is = i;
          visited = count_exactly t.before t.deciding t.behind t.parts (record { not_before = n; is = m });
        }

    found_up : (n p : ℕ) → r.sought ≡ Ok (Some (at_place n p)) → Visited s uuid (Ok (Some (at_place n p))) r.visited
    found_up n p e =
        let h = t.found n p e in
        let x = (each_middle Whole t.before t.deciding t.behind (subst (Each Whole) t.parts w.divides.whole)).content in
        let m = match_says uuid y t.before t.deciding x h.0 in
        up _ (m, omega (arith, h.1)) (inl m)

    nowhere_up : r.sought ≡ Ok None → Visited s uuid (Ok None) r.visited
    nowhere_up e =
        let i = t.nowhere e in
        let l : runs (t.before ++ (t.deciding ∷ [])) ≡ (w.header ∷ w.records) ++ ([] ∷ []) =
        ap (λ (v : List Stored). runs (t.before ++ (t.deciding ∷ v))) (sym i) ∙ ap runs (sym t.parts) ∙ w.sections in
        let m : LastEnd t.deciding t.behind = (eqb-true _ _ (last_end t.before t.deciding (w.header ∷ w.records) l), i) in
        up _ m (inr m)

    few : r.visited ≤ length s / 16
    few =
        let i : length (visited_in a b false w.fields) ≤ length w.fields = visited_few a b false w.fields in
        let j : 16 * length w.fields ≤ length s = rw w.divides.parts (blocks w.fields w.divides.whole) in
        omega (arith, visited_is)

  not_formed : is_well_formed s ≡ false → r ≡ record { sought = Err not_well_formed; visited = 0 }
  not_formed h = c.0 ∙ sym (found_not a b s h)

  -- what the count says beside the answer
  pub count_says : Visited s uuid r.sought r.visited
  count_says = by (is_well_formed s) refl r.sought refl
    where
      by : (o : Bool) → is_well_formed s ≡ o → (v : Result (Option Place) NotWellFormed) → r.sought ≡ v → Visited s uuid v r.visited
      by true h (Ok (Some x)) e = found_up ((well_formed s c.1).0 h) x.number x.place e
      by true h (Ok None) e = nowhere_up ((well_formed s c.1).0 h) e
      by true h (Err x) e = absurd (omega (arith, ap (λ (y : Found). find_number y.sought) c.0, ap find_number e, find_numbers_lem s a b ∙ ap (λ (o : Bool). cond o 0 9) h))
      by false h v e =
          let z = not_formed h in
          let i : v ≡ Err not_well_formed = sym e ∙ ap (λ (x : Found). x.sought) z in
          rw i (ap (λ (x : Found). x.visited) z)

  -- at most the body length divided by 16
  pub count_bound : r.visited ≤ length s / 16
  count_bound = by (is_well_formed s) refl
    where
      by : (o : Bool) → is_well_formed s ≡ o → r.visited ≤ length s / 16
      by true h = few ((well_formed s c.1).0 h)
      by false h = omega (arith, ap (λ (x : Found). x.visited) (not_formed h))

-- ---- two calls: of bodies with the same fields up to the deciding one the answers are equal, with their counts
pub same_answer : (s s' uuid : List ℕ) (r r' : Found) → Sized 16 uuid
    → (r ≡ find_of s (low uuid) (high uuid)) × Bytes s
    → (r' ≡ find_of s' (low uuid) (high uuid)) × Bytes s'
    → (w : WellFormed s) (w' : WellFormed s') (before : List Stored) (f : Stored) (behind behind' : List Stored)
    → w.fields ≡ before ++ (f ∷ behind) → w'.fields ≡ before ++ (f ∷ behind')
    → Decides uuid before f behind → Decides uuid before f behind' → r ≡ r'
same_answer s s' uuid r r' y c c' w w' before f behind behind' e e' d d' =
    search_is s uuid r y c w ∙ ap (searched a b (at_record 0 0 0) false 0) e
    ∙ by d.is d'.is
    ∙ sym (search_is s' uuid r' y c' w' ∙ ap (searched a b (at_record 0 0 0) false 0) e')
  where
    a : ℕ
    a = low uuid

    b : ℕ
    b = high uuid

    by : Matches uuid before f ⊎ LastEnd f behind → Matches uuid before f ⊎ LastEnd f behind'
        → searched a b (at_record 0 0 0) false 0 (before ++ (f ∷ behind)) ≡ searched a b (at_record 0 0 0) false 0 (before ++ (f ∷ behind'))
    by (inl m) o = same_search a b (at_record 0 0 0) false 0 before f behind behind' (match_test uuid y before f m)
    by (inr l) (inl m) = absurd (omega (arith, l.0, m.kind))
    by (inr l) (inr l') = ap (λ (v : List Stored). searched a b (at_record 0 0 0) false 0 (before ++ (f ∷ v))) (l.1 ∙ sym l'.1)
