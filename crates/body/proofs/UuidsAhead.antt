-- Behind the header the UUIDs that stand there are those of the records: the fields that follow one another are those that the walk takes, ENDs part them into records, and each has one UUID.
use Prim.Native.Nat.{ℕ, ◌+◌}
use mathlib.Core.Path.{◌≡◌, refl, sym, ap, ap₂, ◌∙◌, subst}
use mathlib.Core.Bool.{Bool, true, false, cond, ◌&&◌}
use mathlib.Core.List.{List, [], ◌∷◌, ◌++◌, map}
use native.Mathlib.Omega.{arith}
use lib.Dec.{eqb}
use lib.ListN.{length, length-append}
use borrow.Author.Tests.{eqb-true, eq-eqb}
use Rattle.std.proofs.Common.{Option}
use Rattle.words.specs.Each.{Each}
use Rattle.fields.specs.Stored.{Stored, room_of, bytes_of}
use Rattle.fields.specs.Step.{len_at, data_at}
use Rattle.uuids.specs.Uuids.{is_uuid_at, uuids_from, Repeats}
use Rattle.uuids.proofs.Steps.{none_fits, fits}
use Rattle.body.specs.Division.{joined, Divides}
use Rattle.body.specs.Sections.{is_end, push, runs, count, first_data}
use Rattle.body.specs.WellFormed.{GoodRecord, uuid_of}
use Rattle.body.specs.Decision.{fields_of, taken_from, ends_empty, formed, records_in}
use Rattle.body.specs.Find.{place_behind}
use Rattle.body.specs.RecordAt.{record_at}
use Rattle.body.proofs.Verdict.{some_run}
use Rattle.body.proofs.Division.{division, exact}
use Rattle.body.proofs.Decided.{ends_empty_lem}
use Rattle.body.proofs.Sectioned.{end_no_uuid, taken_next, Left, left_whole, left_start, left_turn, good_start}

-- the data of those of the fields that are UUIDs
abbrev is_id : Stored → Bool
is_id f = eqb f.kind 0x01 && eqb (length f.content) 16

abbrev ids : List Stored → List (List ℕ)
ids [] = []
ids (f ∷ fs) = cond (is_id f) (f.content ∷ ids fs) (ids fs)

one_more : (b : Bool) (x : List ℕ) (l : List (List ℕ)) → cond b (x ∷ []) [] ++ l ≡ cond b (x ∷ l) l
one_more true x l = refl
one_more false x l = refl

-- along the fields that the walk takes, to the end
module _ (s : List ℕ) where
  ids_taken : (p : ℕ) (fs : List Stored) → taken_from s p ≡ fs → p + length (joined fs) ≡ length s → uuids_from s p ≡ ids fs
  ids_taken p [] e r = none_fits s p (omega arith)
  ids_taken p (f ∷ fs) e r =
      let n = taken_next s p f fs e in
      let q : p + room_of (len_at s p) ≡ p + room_of (length f.content) = ap (λ (k : ℕ). p + room_of k) (sym n.long) in
      let z : p + room_of (length f.content) + length (joined fs) ≡ length s = rw (← n.blocks) (omega (arith, r, length-append (bytes_of f) (joined fs))) in
      let k : is_uuid_at s p ≡ is_id f = ap₂ (λ (i j : ℕ). eqb i 0x01 && eqb j 16) (sym (ap (λ (g : Stored). g.kind) n.is)) (sym n.long) in
      let d : data_at s p ≡ f.content = sym (ap (λ (g : Stored). g.content) n.is) in
      let u : uuids_from s (p + room_of (len_at s p)) ≡ ids fs = ap (uuids_from s) q ∙ ids_taken (p + room_of (length f.content)) fs n.rest z in
      fits s p (omega (arith, n.within)) ∙ rw (k, d, u) (one_more (is_id f) f.content (ids fs))

abbrev all_ids : List (List Stored) → List (List ℕ)
all_ids [] = []
all_ids (u ∷ us) = ids u ++ all_ids us

ids_runs : (fs : List Stored) → ids fs ≡ all_ids (runs fs)
unfolding runs
ids_runs [] = refl
ids_runs (f ∷ fs) = let r = some_run fs in by (is_end f) refl (is_id f) refl r.0 r.1 r.2 (ids_runs fs)
  where
    by : (b : Bool) → is_end f ≡ b → (k : Bool) → is_id f ≡ k → (u : List Stored) (us : List (List Stored)) → runs fs ≡ u ∷ us → ids fs ≡ all_ids (runs fs)
        → cond (is_id f) (f.content ∷ ids fs) (ids fs) ≡ all_ids (cond b ([] ∷ runs fs) (push f (runs fs)))
    by true e k g u us r ih = rw (end_no_uuid f e) ih
    by false e true g u us r ih = rw (r, g) (ap (◌∷◌ f.content) (ih ∙ ap all_ids r))
    by false e false g u us r ih = rw (r, g) (ih ∙ ap all_ids r)

-- a record has one UUID
no_id : (fs : List Stored) → count 0x01 fs ≡ 0 → ids fs ≡ []
no_id [] h = refl
no_id (f ∷ fs) h = by (eqb f.kind 0x01) h (no_id fs)
  where
    by : (k : Bool) → cond k 1 0 + count 0x01 fs ≡ 0 → (count 0x01 fs ≡ 0 → ids fs ≡ []) → cond (k && eqb (length f.content) 16) (f.content ∷ ids fs) (ids fs) ≡ []
    by true h ih = absurd (omega arith)
    by false h ih = ih (omega arith)

one_id : (fs : List Stored) → count 0x01 fs ≡ 1 → Each (λ f. f.kind ≡ 0x01 → length f.content ≡ 16) fs → ids fs ≡ uuid_of fs ∷ []
unfolding first_data
one_id [] h g = absurd (omega arith)
one_id (f ∷ fs) h g = by (eqb f.kind 0x01) refl h (λ e. one_id fs e g.1)
  where
    by : (k : Bool) → eqb f.kind 0x01 ≡ k → cond k 1 0 + count 0x01 fs ≡ 1 → (count 0x01 fs ≡ 1 → ids fs ≡ uuid_of fs ∷ [])
        → cond (k && eqb (length f.content) 16) (f.content ∷ ids fs) (ids fs) ≡ cond k f.content (uuid_of fs) ∷ []
    by true e h ih = rw (eq-eqb (length f.content) 16 (g.0 (eqb-true f.kind 0x01 e))) (ap (◌∷◌ f.content) (no_id fs (omega arith)))
    by false e h ih = ih (omega arith)

ids_records : (rs : List (List Stored)) → Each GoodRecord rs → all_ids (rs ++ ([] ∷ [])) ≡ map uuid_of rs
ids_records [] g = refl
ids_records (r ∷ rs) g = ap₂ ◌++◌ (one_id r g.0.uuid.once g.0.uuid.size) (ids_records rs g.1)

-- behind the header stand the UUIDs of the records
uuids_left : (s : List ℕ) (h : List Stored) (rs : List (List Stored)) → Left s 0 (h ∷ rs) → Each GoodRecord rs → uuids_from s (record_at s 0).next ≡ map uuid_of rs
uuids_left s h rs x g =
    let l = (left_turn s 0 _ _ x).left in
    ids_taken s (record_at s 0).next (taken_from s (record_at s 0).next) refl l.reach
    ∙ ids_runs (taken_from s (record_at s 0).next)
    ∙ ap all_ids l.parted
    ∙ ids_records rs g

pub uuids_ahead : (s : List ℕ) → formed s ≡ true → uuids_from s (record_at s 0).next ≡ map uuid_of (records_in (runs (fields_of s)))
uuids_ahead s h = uuids_left s _ _ (left_start s h) (good_start s h)

-- A call of `uuids::repeated` at the place behind the header, taken by its contract: the answer is the first record whose UUID an earlier record has, or no two have the same.
-- Of the clauses of a well-formed body it needs those on fields, ENDs, sections and mandatory fields.
pub first_repeated : (s : List ℕ) (fs h : List Stored) (rs : List (List Stored)) (r : Option ℕ)
    → Divides s fs → Each (λ f. f.kind ≡ 0xff → length f.content ≡ 0) fs → runs fs ≡ h ∷ (rs ++ ([] ∷ [])) → Each GoodRecord rs
    → Repeats (uuids_from s (place_behind (h ∷ []))) r → Repeats (map uuid_of rs) r
first_repeated s fs h rs r d e k g x =
    let are : fields_of s ≡ fs = division s fs d in
    let l : Left s 0 (h ∷ rs) = left_whole s h rs (exact s fs d) (ap ends_empty are ∙ (ends_empty_lem fs).1 e) (ap runs are ∙ k) in
    let n : (record_at s 0).next ≡ place_behind (h ∷ []) = (left_turn s 0 _ _ l).next ∙ omega arith in
    subst (λ (us : List (List ℕ)). Repeats us r) (ap (uuids_from s) (sym n) ∙ uuids_left s h rs l g) x
