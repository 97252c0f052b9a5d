-- The answers of `judge` and `find`: their numbers and values, what each says of the body, and that a contract leaves one answer only; by the one test that decides.
use Prim.Native.Nat.{ℕ, ◌+◌}
use mathlib.Core.Path.{◌≡◌, refl, sym, ap₂, ◌∙◌}
use mathlib.Core.Bool.{Bool, true, false, cond}
use mathlib.Core.List.{List}
use lib.Dec.{eqb}
use lib.ListN.{length, get_or}
use Rattle.std.proofs.Common.{Option, Some, None, Result, Ok, Err, is_ok}
use Rattle.words.specs.Numbers.{Bytes}
use Rattle.body.specs.Division.{joined}
use Rattle.body.specs.Sections.{runs}
use Rattle.body.specs.WellFormed.{WellFormed}
use Rattle.body.specs.Decision.{fields_of, is_well_formed, headers_of, records_of, with_counts, not_well_formed, judged_of, judge_number, judge_values}
use Rattle.body.specs.Find.{at_place, first_with, sought_in, visited_in, find_of, find_number, find_values}
use Rattle.body.specs.declared.Counts.{Counts}
use Rattle.body.specs.declared.NotWellFormed.{NotWellFormed}
use Rattle.body.specs.declared.Place.{Place}
use Rattle.body.specs.declared.Found.{Found}
use Rattle.body.proofs.Searched.{found_not}
use Rattle.body.proofs.Decided.{well_formed, decides, fields_are, header_is, records_are, counts_are}

-- the counts are given exactly for a well-formed body
pub judged_ok : (s : List ℕ) → is_ok (judged_of s) ≡ is_well_formed s
unfolding judged_of
judged_ok s = by (is_well_formed s)
  where
    by : (b : Bool) → is_ok (cond b (with_counts (headers_of s) (records_of s)) (Err not_well_formed)) ≡ b
    by true = refl
    by false = refl

-- 9 exactly when the body is not well formed
pub judge_numbers_lem : (s : List ℕ) → judge_number (judged_of s) ≡ cond (is_well_formed s) 0 9
unfolding judged_of
judge_numbers_lem s = by (is_well_formed s)
  where
    by : (b : Bool) → judge_number (cond b (with_counts (headers_of s) (records_of s)) (Err not_well_formed)) ≡ cond b 0 9
    by true = refl
    by false = refl

pub find_numbers_lem : (s : List ℕ) (a b : ℕ) → find_number (find_of s a b).sought ≡ cond (is_well_formed s) 0 9
unfolding find_of
find_numbers_lem s a b = by (is_well_formed s)
  where
    by : (t : Bool) → find_number (cond t (Ok (sought_in a b (runs (fields_of s)))) (Err not_well_formed)) ≡ cond t 0 9
    by true = refl
    by false = refl

-- number and values tell the answer
judge_said : (j : Result Counts NotWellFormed) → cond (eqb (judge_number j) 9) (Err not_well_formed) (with_counts (get_or (judge_values j) 0 0) (get_or (judge_values j) 1 0)) ≡ j
judge_said (Ok c) = refl
judge_said (Err e) = refl

pub judge_told : (j k : Result Counts NotWellFormed) → judge_number j ≡ judge_number k → judge_values j ≡ judge_values k → j ≡ k
judge_told j k n v =
    sym (judge_said j)
    ∙ ap₂ (λ (m : ℕ) (l : List ℕ). cond (eqb m 9) (Err not_well_formed) (with_counts (get_or l 0 0) (get_or l 1 0))) n v
    ∙ judge_said k

-- by the number and the values of what was found
abbrev told : ℕ → List ℕ → Result (Option Place) NotWellFormed
told m l = cond (eqb m 9) (Err not_well_formed) (Ok (cond (eqb (length l) 0) None (Some (at_place (get_or l 0 0) (get_or l 1 0)))))

find_said : (f : Result (Option Place) NotWellFormed) → told (find_number f) (find_values f) ≡ f
find_said (Ok (Some x)) = refl
find_said (Ok None) = refl
find_said (Err e) = refl

pub find_told : (f g : Result (Option Place) NotWellFormed) → find_number f ≡ find_number g → find_values f ≡ find_values g → f ≡ g
find_told f g n v = sym (find_said f) ∙ ap₂ told n v ∙ find_said g

-- no second answer
pub judge_one : (s : List ℕ) (r r' : Result Counts NotWellFormed) → r ≡ judged_of s → r' ≡ judged_of s → r ≡ r'
judge_one s r r' h h' = h ∙ sym h'

pub find_one : (s : List ℕ) (a b : ℕ) (r r' : Found) → r ≡ find_of s a b → r' ≡ find_of s a b → r ≡ r'
find_one s a b r r' h h' = h ∙ sym h'

-- accepted, and the answers over the fields that the definition speaks of
pub judge_is : (s : List ℕ) (w : WellFormed s) → judged_of s ≡ with_counts (length w.header) (length w.records)
unfolding judged_of
judge_is s w = let c = counts_are s w in rw (decides s w, c.0, c.1)

pub find_is : (s : List ℕ) (a b : ℕ) (w : WellFormed s)
    → find_of s a b ≡ record { sought = Ok (first_with a b 0 (length (joined w.header) + 16) w.records); visited = length (visited_in a b false w.fields) }
unfolding find_of
find_is s a b w = rw (decides s w, header_is s w, records_are s w, fields_are s w)

-- refused
not_formed : (s : List ℕ) → Bytes s → (WellFormed s → ⊥) → is_well_formed s ≡ false
not_formed s b n = by (is_well_formed s) refl
  where
    by : (t : Bool) → is_well_formed s ≡ t → t ≡ false
    by true e = absurd (n ((well_formed s b).0 e))
    by false e = refl

pub judge_not : (s : List ℕ) → Bytes s → (WellFormed s → ⊥) → judged_of s ≡ Err not_well_formed
unfolding judged_of
judge_not s b n = rw (not_formed s b n)

pub find_not : (s : List ℕ) (u v : ℕ) → Bytes s → (WellFormed s → ⊥) → find_of s u v ≡ record { sought = Err not_well_formed; visited = 0 }
find_not s u v b n = sym (found_not u v s (not_formed s b n))
