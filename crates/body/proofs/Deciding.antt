-- The field that decides a search, of any fields: the search ends at the first match, or at the last field where there is none, and the fields visited are those up to it; by recursion on the fields.
use Rattle.std.proofs.Common.{Option, Some, None, Result, Ok}
use Prim.Native.Nat.{ℕ, ◌+◌}
use mathlib.Core.Path.{◌≡◌, refl, sym, ap, ◌∙◌}
use mathlib.Core.Bool.{Bool, true, false, cond, ◌||◌, or-false, or_assoc, false≢true}
use mathlib.Core.Logic.{◌⊎◌, inl, inr}
use mathlib.Core.List.{List, [], ◌∷◌, ◌++◌}
use native.Mathlib.Omega.{arith}
use lib.ListN.{length}
use Rattle.fields.specs.Stored.{Stored, room_of}
use Rattle.body.specs.Sections.{is_end, count}
use Rattle.body.specs.Find.{at_place, is_match, visited_in}
use Rattle.body.specs.Search.{visit_of, searched}
use Rattle.body.specs.declared.NotWellFormed.{NotWellFormed}
use Rattle.body.specs.declared.Place.{Place}
use Rattle.body.specs.declared.Found.{Found}
use Rattle.body.specs.declared.search.Progress.{Progress}

-- one of the fields is an END
unfoldable pub ended : List Stored → Bool
ended [] = false
ended (f ∷ fs) = is_end f || ended fs

module _ (a b : ℕ) where
  -- whether f matches, behind the fields u, before which the search was in a record, or not
  abbrev pub matches : Bool → List Stored → Stored → Bool
  matches r u f = is_match a b (r || ended u) f.kind f.content

  -- none of the fields does
  abbrev pub Unmatched : Bool → List Stored → Type 0
  Unmatched r fs = (u : List Stored) (f : Stored) (v : List Stored) → fs ≡ u ++ (f ∷ v) → matches r u f ≡ false

  later : (r : Bool) (g : Stored) (u : List Stored) (f : Stored) → matches (r || is_end g) u f ≡ matches r (g ∷ u) f
  unfolding ended
  later r g u f = ap (λ (o : Bool). is_match a b o f.kind f.content) (or_assoc r (is_end g) (ended u))

  at_once : (r : Bool) (f : Stored) → is_match a b r f.kind f.content ≡ matches r [] f
  unfolding ended
  at_once r f = ap (λ (o : Bool). is_match a b o f.kind f.content) (sym (or-false r))

  -- ---- the count is that of the fields up to the deciding one
  pub up_to : (r : Bool) (before : List Stored) (f : Stored) (behind : List Stored) → Unmatched r before → (matches r before f ≡ true) ⊎ (behind ≡ [])
      → length (visited_in a b r (before ++ (f ∷ behind))) ≡ length before + 1
  unfolding visited_in
  up_to r [] f behind n is = by (is_match a b r f.kind f.content) refl is
    where
      by : (m : Bool) → is_match a b r f.kind f.content ≡ m → (matches r [] f ≡ true) ⊎ (behind ≡ []) → length (f ∷ cond m [] (visited_in a b (r || is_end f) behind)) ≡ 0 + 1
      by true e is = refl
      by false e (inl h) = absurd (false≢true (sym e ∙ at_once r f ∙ h))
      by false e (inr h) = rw h
  up_to r (g ∷ before) f behind n is =
      let e : is_match a b r g.kind g.content ≡ false = at_once r g ∙ n [] g before refl in
      let ih = up_to (r || is_end g) before f behind (λ u h v i. later r g u h ∙ n (g ∷ u) h v (ap (◌∷◌ g) i)) (by is) in
      rw e (omega (arith, ih))
    where
      by : (matches r (g ∷ before) f ≡ true) ⊎ (behind ≡ []) → (matches (r || is_end g) before f ≡ true) ⊎ (behind ≡ [])
      by (inl h) = inl (later r g before f ∙ h)
      by (inr h) = inr h

  -- ---- what stands behind a match changes nothing
  pub same_search : (x : Progress) (r : Bool) (q : ℕ) (before : List Stored) (f : Stored) (behind behind' : List Stored) → matches r before f ≡ true
      → searched a b x r q (before ++ (f ∷ behind)) ≡ searched a b x r q (before ++ (f ∷ behind'))
  unfolding searched
  same_search x r q [] f behind behind' m = rw (at_once r f ∙ m)
  same_search x r q (g ∷ before) f behind behind' m =
      let n = q + room_of (length g.content) in
      ap (cond (is_match a b r g.kind g.content) (record { sought = Ok (Some x.at); visited = x.visited + 1 }))
      (same_search (visit_of x r g.kind n) (r || is_end g) n before f behind behind' (later r g before f ∙ m))

  -- ---- where the search ends
  -- The answer and the field that decides it: a match in the record of that number, or else the last of all.
  pub record Ends (x : Progress) (r : Bool) (fs : List Stored) (y : Result (Option Place) NotWellFormed) : Type 0 where
    pub before : List Stored
    pub deciding : Stored
    pub behind : List Stored
    pub parts : fs ≡ before ++ (deciding ∷ behind)
    pub none : Unmatched r before
    pub found : (n p : ℕ) → y ≡ Ok (Some (at_place n p)) → (matches r before deciding ≡ true) × (n + cond r 0 1 ≡ x.at.number + count 0xff before)
    pub nowhere : y ≡ Ok None → behind ≡ []

  no_part : (u : List Stored) (f : Stored) (v : List Stored) → [] ≡ u ++ (f ∷ v) → ⊥
  no_part [] f v e = omega (arith, ap length e)
  no_part (g ∷ u) f v e = omega (arith, ap length e)

  in_record : (r : Bool) (k : ℕ) (d : List ℕ) → is_match a b r k d ≡ true → r ≡ true
  in_record true k d h = refl
  in_record false k d h = absurd (false≢true h)

  module _ (x : Progress) (r : Bool) (f : Stored) where
    found_here : (fs : List Stored) → is_match a b r f.kind f.content ≡ true → Ends x r (f ∷ fs) (Ok (Some x.at))
    found_here fs m =
        record {
          before = [];
          deciding = f;
          behind = fs;
          parts = refl;
          none = λ u g v e. absurd (no_part u g v e);
          found = λ n p e. (sym (at_once r f) ∙ m, (let z : x.at ≡ at_place n p = cc in let i : x.at.number ≡ n = ap (λ (y : Place). y.number) z in rw (in_record r f.kind f.content m) (omega arith)));
          nowhere = λ e. absurd (cc);
        }

    last_here : Ends x r (f ∷ []) (Ok None)
    last_here =
        record {
          before = [];
          deciding = f;
          behind = [];
          parts = refl;
          none = λ u g v e. absurd (no_part u g v e);
          found = λ n p e. absurd (cc);
          nowhere = λ e. refl;
        }

    -- one field more before
    further : (q : ℕ) (fs : List Stored) (y : Result (Option Place) NotWellFormed) → is_match a b r f.kind f.content ≡ false → Ends (visit_of x r f.kind q) (r || is_end f) fs y → Ends x r (f ∷ fs) y
    further q fs y m t =
        record {
          before = f ∷ t.before;
          deciding = t.deciding;
          behind = t.behind;
          parts = ap (◌∷◌ f) t.parts;
          none = none;
          found = λ n p e. let h = t.found n p e in (sym (later r f t.before t.deciding) ∙ h.0, number r (is_end f) n h.1);
          nowhere = t.nowhere;
        }
      where
        none : Unmatched r (f ∷ t.before)
        none [] g v e = let i : f ≡ g = cc in rw (← i) (sym (at_once r f) ∙ m)
        none (h ∷ u) g v e =
            let i : f ≡ h = cc in
            let j : t.before ≡ u ++ (g ∷ v) = cc in
            rw (← i) (sym (later r f u g) ∙ t.none u g v j)

        number : (o e : Bool) (n : ℕ)
            → n + cond (o || e) 0 1 ≡ x.at.number + cond e (cond o 1 0) 0 + count 0xff t.before
            → n + cond o 0 1 ≡ x.at.number + (cond e 1 0 + count 0xff t.before)
        number true true n h = omega arith
        number true false n h = omega arith
        number false true n h = omega arith
        number false false n h = omega arith

  pub ends : (x : Progress) (r : Bool) (q : ℕ) (f : Stored) (fs : List Stored) → Ends x r (f ∷ fs) (searched a b x r q (f ∷ fs)).sought
  unfolding searched
  ends x r q f [] = by (is_match a b r f.kind f.content) refl
    where
      by : (m : Bool) → is_match a b r f.kind f.content ≡ m → Ends x r (f ∷ []) (cond {A = Found} m (record { sought = Ok (Some x.at); visited = x.visited + 1 }) (record { sought = Ok None; visited = x.visited + 1 })).sought
      by true e = found_here x r f [] e
      by false e = last_here x r f
  ends x r q f (g ∷ fs) =
      let n = q + room_of (length f.content) in
      by n (is_match a b r f.kind f.content) refl _ (ends (visit_of x r f.kind n) (r || is_end f) n g fs)
    where
      by : (n : ℕ) (m : Bool) → is_match a b r f.kind f.content ≡ m → (y : Found) → Ends (visit_of x r f.kind n) (r || is_end f) (g ∷ fs) y.sought
          → Ends x r (f ∷ g ∷ fs) (cond m (record { sought = Ok (Some x.at); visited = x.visited + 1 }) y).sought
      by n true e y t = found_here x r f (g ∷ fs) e
      by n false e y t = further x r f n (g ∷ fs) y.sought e t
