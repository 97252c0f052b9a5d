-- What document 02's Q-6 says of the export, of calls of `export` taken by its contract alone: by recursion on the records, and by what a well-formed body's records are (body, Decided.antt).
use Prim.Native.Nat.{ℕ, suc, ◌+◌, ◌*◌, ◌^◌, ◌<◌}
use mathlib.Core.Path.{◌≡◌, refl, sym, ap, ap₂, subst, ◌∙◌}
use mathlib.Core.Bool.{Bool, true, false, cond, false≢true}
use mathlib.Core.List.{List, [], ◌∷◌, ◌++◌, map}
use native.Mathlib.Nat.{zero-add}
use lib.Dec.{ltb}
use lib.ListN.{length, take, drop, length-map}
use lib.Seq.{take_at}
use borrow.Author.Tests.{ltb-true, ltb-false, lt-ltb, le-ltb}
use Rattle.std.specs.Prelude.{Option, Some, Result, Ok, Err}
use Rattle.fields.specs.Stored.{Stored}
use Rattle.body.specs.WellFormed.{WellFormed}
use Rattle.body.specs.Decision.{is_well_formed}
use Rattle.body.proofs.Decided.{well_formed, decides, records_are}
use Rattle.rows.specs.Login.{table_of}
use Rattle.rows.specs.Import.{values_of, Imports, Shows}
use Rattle.rows.specs.Says.{Holds, RowIs}
use Rattle.rows.specs.declared.RowRefusal.{RowRefusal}
use Rattle.rows.specs.declared.Values.{Values}
use Rattle.rows.proofs.Tables.{table_long}
use Rattle.rows.proofs.Promises as rows
use Rattle.logins.specs.Record.{login_of, fault_of}
use Rattle.logins.specs.Export.{body_records, checked_from, table_from, room_for, or_room, export_of, output_after, Exports}
use Rattle.logins.specs.Says.{FaultyRecord, Written, ExportSays, Agree, AgreeAll}
use Rattle.logins.specs.declared.Fault.{Fault}
use Rattle.logins.specs.declared.ExportRefusal.{ExportRefusal}
use Rattle.logins.specs.declared.ExportRefusal.TheVariants.{NotWellFormed, Faulty, NoRoom}
use Rattle.logins.proofs.Answered.{export_formed, export_not}
use Rattle.logins.proofs.Verdict.{checked_fine, checked_fault, fine_checked, faulty_checked}
use Rattle.logins.proofs.Fitting.{fit_all}
use Rattle.logins.proofs.Expiry.{expiries}

-- ---- Q6.a, Q6.b
module _ (s : List ℕ) (t : ℕ) (b : List ℕ) (w : WellFormed s) where
  rows_are : table_from t (body_records s) ≡ table_of (map (login_of t) w.records)
  unfolding table_from
  rows_are = ap (λ (us : List (List Stored)). table_of (map (login_of t) us)) (records_are s w)

  -- a well-formed body's answer, of what the check comes to
  abbrev answer : Result Unit Fault → Result ℕ ExportRefusal
  answer k = or_room k (room_for (length b) (length w.records))

  formed : t < 2 ^ 32 → (k : Result Unit Fault) → checked_from 0 w.records ≡ k → ExportSays s t b (answer k) (output_after (answer k) t s b)
  formed l (Err f) e =
      let x = checked_fault 0 w.records f e in
      (w, subst (λ (m : ℕ). FaultyRecord w.records m f.kind) (sym (x.1 ∙ zero-add x.0)) x.2, refl)
  formed l (Ok u) e = by (ltb (length b) (256 * length w.records)) refl
    where
      by : (x : Bool) → ltb (length b) (256 * length w.records) ≡ x → ExportSays s t b (cond x (Err NoRoom) (Ok (length w.records))) (output_after (cond x (Err NoRoom) (Ok (length w.records))) t s b)
      by true h = (w, checked_fine 0 w.records e, ltb-true (length b) (256 * length w.records) h, refl)
      by false h =
          record {
            well_formed = w;
            no_fault = checked_fine 0 w.records e;
            days = expiries s w t l;
            number = refl;
            room = ltb-false (length b) (256 * length w.records) h;
            table = ap (λ (x : List ℕ). x ++ drop (256 * length w.records) b) rows_are;
          }

  answer_is : export_of s (length b) ≡ answer (checked_from 0 w.records)
  answer_is =
      export_formed s (length b) (decides s w)
      ∙ ap (λ (us : List (List Stored)). or_room (checked_from 0 us) (room_for (length b) (length us))) (records_are s w)

-- What each answer says, and what the output then holds.
pub says : {s : List ℕ} {t : ℕ} {b : List ℕ} {r : Result ℕ ExportRefusal} {z : List ℕ} → Exports s t b r z → ExportSays s t b r z
says {s} {t} {b} {r} {z} c = by (is_well_formed s) refl
  where
    at : (x : Result ℕ ExportRefusal) → r ≡ x → ExportSays s t b x (output_after x t s b) → ExportSays s t b r z
    at x e h = rw (c.is_after, e) h

    by : (x : Bool) → is_well_formed s ≡ x → ExportSays s t b r z
    by true h =
        let w = (well_formed s c.bytes).0 h in
        at _ (c.is_answer ∙ answer_is s t b w) (formed s t b w c.small (checked_from 0 w.records) refl)
    by false h = at (Err NotWellFormed) (c.is_answer ∙ export_not s (length b) h) (λ w. false≢true (sym h ∙ decides s w), refl)

-- An answer is given exactly where what it says holds.
pub exactly : {s : List ℕ} {t : ℕ} {b : List ℕ} {r : Result ℕ ExportRefusal} {z : List ℕ} → Exports s t b r z → (x : Result ℕ ExportRefusal) → ExportSays s t b x z → r ≡ x
exactly {s} {t} {b} c (Ok n) h =
    let w = h.well_formed in
    c.is_answer ∙ answer_is s t b w ∙ ap (answer s t b w) (fine_checked 0 w.records h.no_fault)
    ∙ ap (room_for (length b)) (sym h.number) ∙ ap (λ (x : Bool). cond x (Err NoRoom) (Ok n)) (le-ltb (length b) (256 * n) h.room)
exactly {s} {t} {b} c (Err NotWellFormed) h = c.is_answer ∙ export_not s (length b) (by (is_well_formed s) refl)
  where
    by : (x : Bool) → is_well_formed s ≡ x → is_well_formed s ≡ false
    by true e = absurd (h.0 ((well_formed s c.bytes).0 e))
    by false e = e
exactly {s} {t} {b} c (Err (Faulty f)) h =
    c.is_answer ∙ answer_is s t b h.0 ∙ ap (answer s t b h.0) (faulty_checked 0 h.0.records f.number f.kind h.1)
    ∙ ap (λ (m : ℕ). Err (Faulty (record { number = m; kind = f.kind }))) (zero-add f.number)
exactly {s} {t} {b} c (Err NoRoom) h =
    let n = length h.0.records in
    c.is_answer ∙ answer_is s t b h.0 ∙ ap (answer s t b h.0) (fine_checked 0 h.0.records h.1)
    ∙ ap (λ (x : Bool). cond x (Err NoRoom) (Ok n)) (lt-ltb (length b) (256 * n) h.2)

-- ---- Q6.e
login_same : (t : ℕ) (u v : List Stored) → Agree u v → login_of t u ≡ login_of t v
unfolding login_of
login_same t u v a = rw (a.uuid, a.group, a.title, a.user, a.expiry)

fault_same : (u v : List Stored) → Agree u v → fault_of u ≡ fault_of v
unfolding fault_of
fault_same u v a = rw (a.group, a.title, a.user, a.expiry)

logins_same : (t : ℕ) (us vs : List (List Stored)) → AgreeAll us vs → map (login_of t) us ≡ map (login_of t) vs
unfolding AgreeAll
logins_same t [] [] a = refl
logins_same t [] (v ∷ vs) a = absurd a
logins_same t (u ∷ us) [] a = absurd a
logins_same t (u ∷ us) (v ∷ vs) a = ap₂ ◌∷◌ (login_same t u v a.0) (logins_same t us vs a.1)

check_same : (n : ℕ) (us vs : List (List Stored)) → AgreeAll us vs → checked_from n us ≡ checked_from n vs
unfolding checked_from AgreeAll
check_same n [] [] a = refl
check_same n [] (v ∷ vs) a = absurd a
check_same n (u ∷ us) [] a = absurd a
check_same n (u ∷ us) (v ∷ vs) a = rw (fault_same u v a.0, check_same (n + 1) us vs a.1)

many_same : (us vs : List (List Stored)) → AgreeAll us vs → length us ≡ length vs
unfolding AgreeAll
many_same [] [] a = refl
many_same [] (v ∷ vs) a = absurd a
many_same (u ∷ us) [] a = absurd a
many_same (u ∷ us) (v ∷ vs) a = ap suc (many_same us vs a.1)

-- "No password leaves.": of two well-formed bodies whose records agree in these five, answer and output are the same, whatever else they hold.
pub no_password : {s s' b : List ℕ} {t : ℕ} {r r' : Result ℕ ExportRefusal} {z z' : List ℕ} (w : WellFormed s) (w' : WellFormed s') → AgreeAll w.records w'.records
    → Exports s t b r z → Exports s' t b r' z' → (r ≡ r') × (z ≡ z')
no_password {s} {s'} {b} {t} {r} {r'} w w' a c d =
    let e : r ≡ r' = c.is_answer ∙ answer_is s t b w ∙ ap₂ (λ (k : Result Unit Fault) (m : ℕ). or_room k (room_for (length b) m)) (check_same 0 w.records w'.records a) (many_same w.records w'.records a) ∙ sym (d.is_answer ∙ answer_is s' t b w') in
    let f : table_from t (body_records s) ≡ table_from t (body_records s') = rows_are s t b w ∙ ap table_of (logins_same t w.records w'.records a) ∙ sym (rows_are s' t b w') in
    (e, c.is_after ∙ ap (λ (x : Result ℕ ExportRefusal). output_after x t s b) e ∙ after r' f ∙ sym d.is_after)
  where
    after : (x : Result ℕ ExportRefusal) → table_from t (body_records s) ≡ table_from t (body_records s') → output_after x t s b ≡ output_after x t s' b
    after (Ok n) f = ap (λ (y : List ℕ). y ++ drop (256 * n) b) f
    after (Err e) f = refl

-- no second answer
pub export_one : {s b : List ℕ} {t : ℕ} {r r' : Result ℕ ExportRefusal} {z z' : List ℕ} → Exports s t b r z → Exports s t b r' z' → (r ≡ r') × (z ≡ z')
export_one {s} {b} {t} c d =
    let e = c.is_answer ∙ sym d.is_answer in
    (e, c.is_after ∙ ap (λ (x : Result ℕ ExportRefusal). output_after x t s b) e ∙ sym d.is_after)

-- ---- Q6.c: what is exported is taken back
map_append : (t : ℕ) (us vs : List (List Stored)) → map (login_of t) (us ++ vs) ≡ map (login_of t) us ++ map (login_of t) vs
map_append t [] vs = refl
map_append t (x ∷ us) vs = ap (◌∷◌ (login_of t x)) (map_append t us vs)

module _ {s : List ℕ} {t : ℕ} {b : List ℕ} {n : ℕ} {z : List ℕ} (w : Written s t b n z) where
  abbrev us : List (List Stored)
  us = w.well_formed.records

  many : n ≡ length (map (login_of t) us)
  many = w.number ∙ sym (length-map us (login_of t))

  -- the first 256 n bytes of the output are the table of the logins of the records, and these fit
  pub holds : Holds (take (256 * n) z) (map (login_of t) us)
  holds =
      let ls = map (login_of t) us in
      record {
        is_table = ap (take (256 * n)) w.table ∙ take_at (table_of ls) (drop (256 * n) b) (256 * n) (table_long ls ∙ ap (λ (m : ℕ). 256 * m) (sym many));
        fits = fit_all t us w.well_formed.mandatory w.no_fault;
      }

  -- "Import gives the values of such a table back": import accepts it, with all its rows
  pub taken_back : {i : Result ℕ RowRefusal} → Imports (take (256 * n) z) i → i ≡ Ok n
  taken_back d = (rows.accepted_exactly d n).1 (map (login_of t) us, holds, many)

  -- and each row gives the values of its record, the texts in their places
  pub shown_back : {a : Result (Option Values) RowRefusal} (before : List (List Stored)) (u : List Stored) (others : List (List Stored)) → us ≡ before ++ (u ∷ others)
      → Shows (take (256 * n) z) (length before) a
      → (a ≡ Ok (Some (values_of (login_of t u)))) × RowIs (take (256 * n) z) (length before) (login_of t u) (values_of (login_of t u))
  shown_back {a} before u others e d =
      let f = map (login_of t) in
      let table = take (256 * n) z in
      let m = length-map before (login_of t) in
      let x = rows.shown_back (f before) (login_of t u) (f others) (subst (Holds table) (ap f e ∙ map_append t before (u ∷ others)) holds) (subst (λ (k : ℕ). Shows table k a) (sym m) d) in
      (x.0, subst (λ (k : ℕ). RowIs table k (login_of t u) (values_of (login_of t u))) m x.1)
