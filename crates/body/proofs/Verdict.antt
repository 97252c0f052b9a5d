-- The verdict on the rest of the fields, given the present section so far, is the verdict on the whole: one field more goes to the section or ends it.
use Rattle.std.proofs.Common.{Result, Err}
use Prim.Native.Nat.{ℕ, suc, ◌+◌, ◌-◌, ◌≤◌}
use mathlib.Core.Path.{◌≡◌, refl, ap}
use mathlib.Core.Bool.{Bool, true, false, cond, ◌&&◌}
use mathlib.Core.List.{List, [], ◌∷◌, ◌++◌, append_assoc, append-nil}
use native.Mathlib.Nat.{add-zero, zero-add}
use native.Mathlib.Omega.{arith}
use lib.ListN.{length}
use lib.Seq.{length-take-le}
use Rattle.fields.specs.Stored.{Stored}
use Rattle.fields.specs.Step.{end_with_data}
use Rattle.body.specs.Sections.{is_end, push, runs}
use Rattle.body.specs.Decision.{fields_of, exact_from, ends_empty, none, good_header, good_record, good_runs, header_in, records_in, with_counts, not_well_formed}
use Rattle.body.specs.Tally.{sections_of}
use Rattle.body.specs.declared.Counts.{Counts}
use Rattle.body.specs.declared.NotWellFormed.{NotWellFormed}

-- the fields cur before the first run
abbrev glue : List Stored → List (List Stored) → List (List Stored)
glue cur [] = []
glue cur (u ∷ us) = (cur ++ u) ∷ us

-- header fields and records that are still to come; r: in a record
abbrev headers_left : Bool → List (List Stored) → ℕ
headers_left r us = cond r 0 (length (header_in us))

abbrev records_left : Bool → List (List Stored) → ℕ
records_left r us = length us - cond r 1 2

-- h header fields and n records so far, the present section with the fields cur; b: all before it is right; e: the fields fs that are left reach the end
abbrev pub verdict : Bool → Bool → List Stored → ℕ → ℕ → Bool → List Stored → Result Counts NotWellFormed
verdict b r cur h n e fs =
    cond (b && (e && (ends_empty fs && good_runs r (glue cur (runs fs))))) (with_counts (h + headers_left r (runs fs)) (n + records_left r (runs fs))) (Err not_well_formed)

-- there is always a run
pub some_run : (fs : List Stored) → (u : List Stored) × (us : List (List Stored)) × (runs fs ≡ u ∷ us)
unfolding runs
some_run [] = ([], [], refl)
some_run (f ∷ fs) = by (is_end f) (some_run fs)
  where
    by : (b : Bool) → (u : List Stored) × (us : List (List Stored)) × (runs fs ≡ u ∷ us)
        → (u : List Stored) × (us : List (List Stored)) × (cond b ([] ∷ runs fs) (push f (runs fs)) ≡ u ∷ us)
    by true r = ([], runs fs, refl)
    by false r = (f ∷ r.0, r.1, ap (push f) r.2)

alike : (a b : Bool) (h h' n n' : ℕ) → a ≡ b → h ≡ h' → n ≡ n' → cond a (with_counts h n) (Err not_well_formed) ≡ cond b (with_counts h' n') (Err not_well_formed)
alike a b h h' n n' p q r = rw (p, q, r)

module _ (b r : Bool) (cur : List Stored) (h n : ℕ) (e : Bool) (f : Stored) (fs : List Stored) (d : end_with_data f.kind (length f.content) ≡ false) where
  -- the field ends the section
  pub verdict_end : is_end f ≡ true → verdict b r cur h n e (f ∷ fs) ≡ verdict (b && cond r (good_record cur) (good_header cur)) true [] h (n + cond r 1 0) e fs
  unfolding runs good_runs
  verdict_end k =
      let s = some_run fs in
      rw (d, k, s.2, append-nil cur)
      (alike _ _ _ _ _ _ (by b e (ends_empty fs) (cond r (good_record cur) (good_header cur)) (good_runs true (s.0 ∷ s.1))) (zeros r) (counts r (length s.1)))
    where
      by : (b e m g t : Bool) → b && (e && (m && (g && t))) ≡ (b && g) && (e && (m && t))
      by false e m g t = refl
      by true true true g t = refl
      by true true false true t = refl
      by true true false false t = refl
      by true false m true t = refl
      by true false m false t = refl

      zeros : (r : Bool) → h + cond r 0 0 ≡ h + 0
      zeros true = refl
      zeros false = refl

      counts : (r : Bool) (l : ℕ) → n + (suc (suc l) - cond r 1 2) ≡ n + cond r 1 0 + (suc l - 1)
      counts true l = omega arith
      counts false l = omega arith

  -- the field goes to the section
  pub verdict_field : is_end f ≡ false → verdict b r cur h n e (f ∷ fs) ≡ verdict b r (cur ++ (f ∷ [])) (h + cond r 0 1) n e fs
  unfolding runs
  verdict_field k =
      let s = some_run fs in
      rw (d, k, s.2, append_assoc cur (f ∷ []) s.0, counts r (length s.0))
    where
      counts : (r : Bool) (l : ℕ) → h + cond r 0 (suc l) ≡ h + cond r 0 1 + cond r 0 l
      counts true l = omega arith
      counts false l = omega arith

-- no field is left
pub verdict_stop : (b r : Bool) (cur : List Stored) (h n : ℕ) (e : Bool) → e ≡ true
    → verdict b r cur h n e [] ≡ cond (b && (r && none cur)) (with_counts h n) (Err not_well_formed)
unfolding runs good_runs
verdict_stop b r cur h n e k = rw (k, append-nil cur) (by b r)
  where
    by : (b r : Bool) → cond (b && (r && none cur)) (with_counts (h + cond r 0 0) (n + (1 - cond r 1 2))) (Err not_well_formed) ≡ cond (b && (r && none cur)) (with_counts h n) (Err not_well_formed)
    by b true = rw (add-zero h, add-zero n)
    by true false = refl
    by false false = refl

-- the whole body
pub verdict_start : (s : List ℕ) → verdict true false [] 0 0 (exact_from s 0) (fields_of s) ≡ sections_of s
unfolding sections_of
verdict_start s = let t = some_run (fields_of s) in rw (t.2, zero-add (length t.0), counts t.1)
  where
    counts : (us : List (List Stored)) → 0 + (suc (length us) - 2) ≡ length (records_in ([] ∷ us))
    counts us = let l : length us - 1 ≤ length us = omega arith in let e = length-take-le (length us - 1) us l in omega (arith, e)

-- what is left does not reach the end, or has an END with data
pub verdict_broken : (b r : Bool) (cur : List Stored) (h n : ℕ) (fs : List Stored) → Err not_well_formed ≡ verdict b r cur h n false fs
verdict_broken b r cur h n fs = by b
  where
    by : (b : Bool) → Err not_well_formed ≡ cond (b && false) (with_counts (h + headers_left r (runs fs)) (n + records_left r (runs fs))) (Err not_well_formed)
    by true = refl
    by false = refl

pub verdict_ended : (b r : Bool) (cur : List Stored) (h n : ℕ) (e : Bool) (f : Stored) (fs : List Stored) → end_with_data f.kind (length f.content) ≡ true
    → Err not_well_formed ≡ verdict b r cur h n e (f ∷ fs)
verdict_ended b r cur h n e f fs d = rw d (by b e)
  where
    by : (b e : Bool) → Err not_well_formed ≡ cond (b && (e && false)) (with_counts (h + headers_left r (runs (f ∷ fs))) (n + records_left r (runs (f ∷ fs)))) (Err not_well_formed)
    by true true = refl
    by true false = refl
    by false e = refl
