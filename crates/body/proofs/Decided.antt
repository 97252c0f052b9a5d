-- `is_well_formed` holds exactly of the well-formed bodies, and what the HMAC covers and the counts are those of their fields: clause by clause, each test says its clause.
use Prim.Native.Nat.{ℕ, ◌-◌, ◌<◌, ◌≤◌}
use mathlib.Core.Path.{◌≡◌, refl, sym, ap, ◌∙◌}
use mathlib.Core.Logic.{◌↔◌}
use mathlib.Core.Bool.{Bool, true, false, cond, not, ◌&&◌, false≢true}
use mathlib.Core.List.{List, [], ◌∷◌, ◌++◌, map}
use native.Mathlib.Omega.{arith}
use lib.Dec.{eqb, leb}
use lib.ListN.{length, get_or, length-append}
use lib.Seq.{take_at}
use borrow.Author.Tests.{eqb-true, eq-eqb}
use Rattle.words.specs.Each.{Each}
use Rattle.words.proofs.EachLaws.{both, and, equal, at_most, each, where_equal}
use Rattle.words.specs.Numbers.{Bytes}
use Rattle.fields.specs.Stored.{Stored}
use Rattle.fields.specs.Step.{end_with_data}
use Rattle.body.specs.Division.{Divides}
use Rattle.body.specs.Sections.{runs, count, covered}
use Rattle.body.specs.WellFormed.{VersionFirst, once_in_header, One, GoodRecord, uuid_of, WellFormed}
use Rattle.body.specs.Decision.{fields_of, walkable, exact_from, ends_empty, version_first, one, good_header, good_record, none, good_runs, formed, distinct, is_well_formed, header_in, records_in, headers_of, records_of, covered_of}
use Rattle.body.proofs.Division.{divides, division, exact}
use Rattle.body.proofs.Along.{walkable_all}
use Rattle.body.proofs.Distinct.{uuids_differ}

-- every END has length 0
empty_end : (f : Stored) → (not (end_with_data f.kind (length f.content)) ≡ true) ↔ (f.kind ≡ 0xff → length f.content ≡ 0)
empty_end f = (λ h q. forth (eqb f.kind 0xff) (eqb (length f.content) 0) h (eq-eqb f.kind 0xff q) (eqb-true (length f.content) 0), λ h. back (eqb f.kind 0xff) refl h)
  where
    forth : (a b : Bool) → not (a && not b) ≡ true → a ≡ true → (b ≡ true → length f.content ≡ 0) → length f.content ≡ 0
    forth true true h e k = k refl
    forth true false h e k = absurd (false≢true h)
    forth false b h e k = absurd (false≢true e)

    back : (a : Bool) → eqb f.kind 0xff ≡ a → (f.kind ≡ 0xff → length f.content ≡ 0) → not (a && not (eqb (length f.content) 0)) ≡ true
    back true e h = rw (eq-eqb (length f.content) 0 (h (eqb-true f.kind 0xff e)))
    back false e h = refl

pub ends_empty_lem : (fs : List Stored) → (ends_empty fs ≡ true) ↔ Each (λ f. f.kind ≡ 0xff → length f.content ≡ 0) fs
ends_empty_lem fs = each (λ f. not (end_with_data f.kind (length f.content))) (λ f. f.kind ≡ 0xff → length f.content ≡ 0) empty_end fs

version : (fs : List Stored) → (version_first fs ≡ true) ↔ VersionFirst fs
version [] = (λ h. false≢true h, λ h. absurd h)
version (f ∷ fs) = (
  λ h.
      let x = both (eqb f.kind 0x00) (eqb (length f.content) 2 && eqb (get_or f.content 1 0) 0x03) h in
      let y = both (eqb (length f.content) 2) (eqb (get_or f.content 1 0) 0x03) x.1 in
      (eqb-true _ _ x.0, eqb-true _ _ y.0, eqb-true _ _ y.1),
  λ h. rw (eq-eqb f.kind 0x00 h.0, eq-eqb (length f.content) 2 h.1, eq-eqb (get_or f.content 1 0) 0x03 h.2),
)

one_of : (k : ℕ) (t : ℕ → Bool) (Fits : ℕ → Type 0) → ((n : ℕ) → (t n ≡ true) ↔ Fits n) → (fs : List Stored) → (one k t fs ≡ true) ↔ One k Fits fs
one_of k t Fits s fs =
    let sizes = each (λ f. cond (eqb f.kind k) (t (length f.content)) true) (λ f. f.kind ≡ k → Fits (length f.content)) (λ f. where_equal f.kind k (t (length f.content)) (Fits (length f.content)) (s (length f.content))) fs in (
      λ h. let x = both (eqb (count k fs) 1) _ h in record { once = eqb-true _ _ x.0; size = sizes.0 x.1 },
      λ h. and (eqb (count k fs) 1) _ (eq-eqb (count k fs) 1 h.once) (sizes.1 h.size),
    )

header : (fs : List Stored) → (good_header fs ≡ true) ↔ Each (λ k. count k fs ≤ 1) once_in_header
unfolding good_header
header fs = each (λ k. leb (count k fs) 1) (λ k. count k fs ≤ 1) (λ k. at_most (count k fs) 1) once_in_header

good : (fs : List Stored) → (good_record fs ≡ true) ↔ GoodRecord fs
unfolding good_record
good fs =
    let u = one_of 0x01 (λ n. eqb n 16) (λ n. n ≡ 16) (λ n. equal n 16) fs in
    let t = one_of 0x03 (λ n. leb 1 n) (λ n. 1 ≤ n) (λ n. at_most 1 n) fs in
    let p = one_of 0x06 (λ n. leb 1 n) (λ n. 1 ≤ n) (λ n. at_most 1 n) fs in (
      λ h.
          let x = both (one 0x01 (λ n. eqb n 16) fs) _ h in
          let y = both (one 0x03 (λ n. leb 1 n) fs) _ x.1 in
          record { uuid = u.0 x.0; title = t.0 y.0; password = p.0 y.1 },
      λ h. and (one 0x01 (λ n. eqb n 16) fs) _ (u.1 h.uuid) (and (one 0x03 (λ n. leb 1 n) fs) _ (t.1 h.title) (p.1 h.password)),
    )

no_field : (u : List Stored) → none u ≡ true → u ≡ []
no_field [] h = refl
no_field (f ∷ fs) h = absurd (false≢true h)

-- good runs after the header: records, then nothing
records_in_lem : (us : List (List Stored)) → good_runs true us ≡ true → (rs : List (List Stored)) × (us ≡ rs ++ ([] ∷ [])) × Each GoodRecord rs
unfolding good_runs
records_in_lem [] h = absurd (false≢true h)
records_in_lem (u ∷ []) h = ([], rw (no_field u h), tt)
records_in_lem (u ∷ v ∷ us) h =
    let x = both (good_record u) (good_runs true (v ∷ us)) h in
    let r = records_in_lem (v ∷ us) x.1 in
    (u ∷ r.0, ap (◌∷◌ u) r.1, ((good u).0 x.0, r.2))

records_out : (rs : List (List Stored)) → Each GoodRecord rs → good_runs true (rs ++ ([] ∷ [])) ≡ true
unfolding good_runs
records_out [] h = refl
records_out (r ∷ []) h = rw ((good r).1 h.0)
records_out (r ∷ q ∷ rs) h = rw ((good r).1 h.0) (records_out (q ∷ rs) h.1)

pub sections_in : (us : List (List Stored)) → good_runs false us ≡ true
    → (h : List Stored) × (rs : List (List Stored)) × (us ≡ h ∷ (rs ++ ([] ∷ []))) × Each (λ k. count k h ≤ 1) once_in_header × Each GoodRecord rs
unfolding good_runs
sections_in [] e = absurd (false≢true e)
sections_in (u ∷ []) e = absurd (false≢true e)
sections_in (u ∷ v ∷ us) e =
    let x = both (good_header u) (good_runs true (v ∷ us)) e in
    let r = records_in_lem (v ∷ us) x.1 in
    (u, r.0, ap (◌∷◌ u) r.1, (header u).0 x.0, r.2)

sections_out : (h : List Stored) (rs : List (List Stored)) → Each (λ k. count k h ≤ 1) once_in_header → Each GoodRecord rs → good_runs false (h ∷ (rs ++ ([] ∷ []))) ≡ true
unfolding good_runs
sections_out h [] k r = rw ((header h).1 k)
sections_out h (q ∷ rs) k r = rw ((header h).1 k) (records_out (q ∷ rs) r)

-- the records between the first run and the last
pub in_sections : (h : List Stored) (rs us : List (List Stored)) → us ≡ h ∷ (rs ++ ([] ∷ [])) → records_in us ≡ rs
in_sections h rs us e =
    let n : length rs ≡ length (rs ++ ([] ∷ [])) - 1 = simp length-append (omega arith) in
    ap records_in e ∙ take_at rs ([] ∷ []) (length (rs ++ ([] ∷ [])) - 1) n

module _ (s : List ℕ) where
  decided : Bytes s → is_well_formed s ≡ true → WellFormed s
  unfolding is_well_formed formed
  decided b h =
      let f = both (formed s) _ h in
      let x = both (exact_from s 0) _ f.0 in
      let y = both (ends_empty (fields_of s)) _ x.1 in
      let z = both (version_first (fields_of s)) _ y.1 in
      let t = sections_in (runs (fields_of s)) z.1 in
      record {
        fields = fields_of s;
        header = t.0;
        records = t.1;
        divides = divides s b x.0;
        ends = (ends_empty_lem (fields_of s)).0 y.0;
        version = (version (fields_of s)).0 z.0;
        sections = t.2;
        repeats = t.3;
        mandatory = t.4;
        uuids = (uuids_differ t.1).0 (ap (λ (rs : List (List Stored)). distinct (map uuid_of rs)) (sym (in_sections t.0 t.1 (runs (fields_of s)) t.2)) ∙ f.1);
      }

  -- the fields of a well-formed body are those that are read
  pub fields_are : (w : WellFormed s) → fields_of s ≡ w.fields
  fields_are w = division s w.fields w.divides

  pub decides : WellFormed s → is_well_formed s ≡ true
  unfolding is_well_formed formed
  decides w =
      rw (exact s w.fields w.divides, fields_are w, (ends_empty_lem w.fields).1 w.ends, (version w.fields).1 w.version)
      (and (good_runs false (runs w.fields)) _ (ap (good_runs false) w.sections ∙ sections_out w.header w.records w.repeats w.mandatory)
      (ap (λ (rs : List (List Stored)). distinct (map uuid_of rs)) (in_sections w.header w.records (runs w.fields) w.sections) ∙ (uuids_differ w.records).1 w.uuids))

  pub well_formed : Bytes s → (is_well_formed s ≡ true) ↔ WellFormed s
  well_formed b = (decided b, decides)

  pub covered_are : (w : WellFormed s) → covered_of s ≡ covered w.fields
  covered_are w =
      ap (λ (l : List Stored). covered (walkable l)) (fields_are w)
      ∙ ap covered (walkable_all w.fields ((ends_empty_lem w.fields).1 w.ends))

  runs_are : (w : WellFormed s) → runs (fields_of s) ≡ w.header ∷ (w.records ++ ([] ∷ []))
  runs_are w = ap runs (fields_are w) ∙ w.sections

  pub header_is : (w : WellFormed s) → header_in (runs (fields_of s)) ≡ w.header
  header_is w = ap header_in (runs_are w)

  pub records_are : (w : WellFormed s) → records_in (runs (fields_of s)) ≡ w.records
  records_are w = in_sections w.header w.records (runs (fields_of s)) (runs_are w)

  -- a body in which two records have one UUID is not well formed
  pub two_with_one : (fs h : List Stored) (rs : List (List Stored)) → Divides s fs → runs fs ≡ h ∷ (rs ++ ([] ∷ [])) → (i j : ℕ) → i < j → j < length rs
      → uuid_of (get_or rs i []) ≡ uuid_of (get_or rs j []) → WellFormed s → ⊥
  two_with_one fs h rs d e i j l k u w =
      let same : rs ≡ w.records = sym (in_sections h rs (runs (fields_of s)) (ap runs (division s fs d) ∙ e)) ∙ records_are w in
      w.uuids i j l (omega (arith, ap length same))
      (ap (λ (x : List (List Stored)). uuid_of (get_or x i [])) (sym same) ∙ u ∙ ap (λ (x : List (List Stored)). uuid_of (get_or x j [])) same)

  pub counts_are : (w : WellFormed s) → (headers_of s ≡ length w.header) × (records_of s ≡ length w.records)
  counts_are w = (ap length (header_is w), ap length (records_are w))
