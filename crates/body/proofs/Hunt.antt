-- Where the loop of the search stands: with the fields that are left, it comes to what the search comes to from where it began.
use Rattle.std.proofs.Common.{Some, None, Ok}
use Prim.Native.Nat.{ℕ, ◌+◌, ◌-◌, ◌≤◌}
use mathlib.Core.Path.{◌≡◌, refl, sym, ap, ap₂, ◌∙◌}
use mathlib.Core.Bool.{Bool, true, false, cond, ◌||◌}
use mathlib.Core.List.{List}
use native.Mathlib.Nat.{add-sub_cancel_left}
use native.Mathlib.Omega.{arith}
use lib.Dec.{eqb}
use lib.ListN.{length, take, drop}
use Rattle.fields.specs.Stored.{Stored, room_of}
use Rattle.fields.specs.Step.{step_of}
use Rattle.fields.specs.declared.Cursor.{Cursor}
use Rattle.fields.specs.declared.Taken.{Taken}
use Rattle.fields.proofs.Outcomes.{taken, forward, next_place}
use Rattle.body.specs.Sections.{is_end}
use Rattle.body.specs.Decision.{stored_at, taken_from}
use Rattle.body.specs.Find.{at_place, is_match}
use Rattle.body.specs.Search.{at_record, visit_of, searched, searched_on}
use Rattle.body.specs.declared.Place.{Place}
use Rattle.body.specs.declared.Found.{Found}
use Rattle.body.specs.declared.search.Progress.{Progress}
use Rattle.body.proofs.Division.{data_long}
use Rattle.body.proofs.Along.{taken_kind, taken_fits, TakesNone, fold_took, fold_else}

-- The cursor c, and what is kept so far: each field takes a block at least, and each record a field at least. All of it comes to y.
pub record Hunts (s : List ℕ) (a b : ℕ) (y : Found) (c : Cursor) (x : Progress) : Type 0 where
  pub few : x.at.number ≤ x.visited
  pub small : x.visited ≤ c.place
  rest : searched_on a b x c s ≡ y

-- a search that begins
pub at_zero : (x : Progress) → ((x.at.number ≡ 0) × (x.at.place ≡ 0)) × (x.visited ≡ 0) → x ≡ at_record 0 0 0
at_zero x h = ap₂ (λ (p : Place) (v : ℕ). record { at = p; visited = v }) (ap₂ at_place h.0.0 h.0.1) h.1

pub hunts_start : (s : List ℕ) (a b : ℕ) (c : Cursor) (x : Progress) → (x.at.number ≤ x.visited) × (x.visited ≤ c.place) → Hunts s a b (searched_on a b x c s) c x
hunts_start s a b c x h = record { few = h.0; small = h.1; rest = refl }

-- a field brings one record more at the most
one_record : (e r : Bool) → cond e (cond r 1 0) 0 ≤ 1
one_record true true = omega arith
one_record true false = omega arith
one_record false r = omega arith

module _ (s : List ℕ) (a b : ℕ) (y : Found) (c : Cursor) (x : Progress) (h : Hunts s a b y c x) where
  pub hunts_else : TakesNone s c → record { sought = Ok None; visited = x.visited } ≡ y
  unfolding searched
  hunts_else o = fold_else (searched a b x c.in_record c.place) _ s c h.rest o

  module _ (t : Taken) (e : step_of s c ≡ Ok (Some t)) where
    abbrev g : Stored
    g = stored_at s c.place

    far : c.place + room_of (length g.content) ≡ t.next.place
    far = ap (λ (m : ℕ). c.place + room_of m) (data_long s c.place (taken_fits s c t e)) ∙ sym (next_place s c t e)

    -- the data as the loop cuts them out
    cut : take (c.place + 5 + t.len - (c.place + 5)) (drop (c.place + 5) s) ≡ g.content
    cut = ap (λ (n : ℕ). take n (drop (c.place + 5) s)) (add-sub_cancel_left (c.place + 5) t.len ∙ (taken s c t e).len)

    next : cond (is_match a b c.in_record g.kind g.content) (record { sought = Ok (Some x.at); visited = x.visited + 1 })
        (searched a b (visit_of x c.in_record g.kind (c.place + room_of (length g.content))) (c.in_record || is_end g) (c.place + room_of (length g.content)) (taken_from s t.next.place)) ≡ y
    unfolding searched
    next = fold_took (searched a b x c.in_record c.place) _ s c h.rest t e

    pub hunts_inside : (x.at.number ≤ x.visited) × (x.visited + 16 ≤ t.next.place) × (t.next.place ≤ length s)
    hunts_inside = let w = forward s c t e in (h.few, omega (arith, h.small, w.0), w.1)

    module _ (m : Bool) (k : m ≡ is_match a b c.in_record t.kind (take (c.place + 5 + t.len - (c.place + 5)) (drop (c.place + 5) s))) where
      tested : is_match a b c.in_record g.kind g.content ≡ m
      tested = sym (k ∙ ap₂ (λ (i : ℕ) (l : List ℕ). is_match a b c.in_record i l) (taken_kind s c t e) cut)

      pub hunts_found : m ≡ true → record { sought = Ok (Some x.at); visited = x.visited + 1 } ≡ y
      hunts_found i = rw (tested ∙ i) at next

      pub hunts_next : m ≡ false → (x' : Progress) → x' ≡ visit_of x c.in_record t.kind t.next.place → Hunts s a b y t.next x'
      hunts_next l x' i =
          let w = forward s c t e in
          let r = c.in_record in
          let z : searched a b (visit_of x r g.kind (c.place + room_of (length g.content))) (r || is_end g) (c.place + room_of (length g.content)) (taken_from s t.next.place) ≡ y = rw (tested ∙ l) at next in
          let j : x' ≡ visit_of x r g.kind (c.place + room_of (length g.content)) = i ∙ ap₂ (λ (n p : ℕ). visit_of x r n p) (taken_kind s c t e) (sym far) in
          let v : x'.visited ≡ x.visited + 1 = ap (λ (z : Progress). z.visited) i in
          let n : x'.at.number ≤ x.at.number + 1 = rw i (omega (arith, one_record (eqb t.kind 0xff) r)) in
          let o : t.next.in_record ≡ r || is_end g = ap (λ (z : Cursor). z.in_record) (taken s c t e).next in
          record {
            few = omega (arith, h.few);
            small = omega (arith, h.small, w.0);
            rest = ap (λ (u : Progress). searched a b u t.next.in_record t.next.place (taken_from s t.next.place)) j
                ∙ ap₂ (λ (i : Bool) (p : ℕ). searched a b (visit_of x r g.kind (c.place + room_of (length g.content))) i p (taken_from s t.next.place)) o (sym far) ∙ z;
          }
