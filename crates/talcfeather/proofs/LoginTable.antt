-- The promises of document 02's Q-6, of calls of `talc_export`, `talc_import` and `talc_row` as they ship, each taken by its contract alone: what is said of every call of `export` (logins, Promises.antt), `import` and `row` (rows, Promises.antt), carried over.
use Prim.Native.Nat.{ℕ, ◌*◌}
use mathlib.Core.Path.{◌≡◌, refl, sym, ap, subst, ◌∙◌}
use mathlib.Core.Logic.{◌↔◌}
use mathlib.Core.List.{List, [], ◌∷◌, ◌++◌}
use native.Mathlib.Omega.{arith}
use lib.ListN.{length, take}
use Rattle.std.specs.Prelude.{Option, Some, Result, Ok, Err}
use Rattle.fields.specs.Stored.{Stored}
use Rattle.body.specs.WellFormed.{WellFormed}
use Rattle.rows.specs.Login.{Login, table_of}
use Rattle.rows.specs.Import.{values_of, import_of, show_of, Imports, Shows}
use Rattle.rows.specs.Says.{Holds, ImportSays, RowIs, RowSays}
use Rattle.rows.specs.Answers.{import_number, import_numbers, row_number, row_numbers}
use Rattle.rows.specs.declared.RowRefusal.{RowRefusal}
use Rattle.rows.specs.declared.Values.{Values}
use Rattle.rows.proofs.Promises as rows
use Rattle.logins.specs.Record.{login_of}
use Rattle.logins.specs.Export.{export_of, output_after, Exports}
use Rattle.logins.specs.Says.{Written, ExportSays, AgreeAll}
use Rattle.logins.specs.Answers.{export_number, export_numbers}
use Rattle.logins.specs.declared.ExportRefusal.{ExportRefusal}
use Rattle.logins.specs.declared.ExportRefusal.TheVariants.{NotWellFormed, Faulty, NoRoom}
use Rattle.logins.proofs.Promises as logins
use Rattle.talcfeather.specs.Numbers.{in_bytes}
use Rattle.talcfeather.specs.Table.{TalcExport, TalcImport, TalcRow}

abbrev Exported : Type 0
Exported = Result ℕ ExportRefusal

abbrev Imported : Type 0
Imported = Result ℕ RowRefusal

abbrev Shown : Type 0
Shown = Result (Option Values) RowRefusal

-- a call, with the answer that its number and its bytes are of
as_export : {s b z a : List ℕ} {t n : ℕ} → TalcExport s t b n z a → Exports s t b (export_of s (length b)) z
as_export c = record { bytes = c.bytes; small = c.small; is_answer = refl; is_after = c.is_output }

as_import : {t a : List ℕ} {n : ℕ} → TalcImport t n a → Imports t (import_of t)
as_import c = record { bytes = c.bytes; is_answer = refl }

as_row : {t a : List ℕ} {i n : ℕ} → TalcRow t i n a → Shows t i (show_of t i)
as_row c = record { bytes = c.bytes; is_answer = refl }

-- Q6.a "Export each record of an accepted body as 256 bytes"; Q6.b "A body that isn't well formed gives 9", 18, "then a short output gives 3": what each answer says, and what the output then holds.
pub export_says : {s b z a : List ℕ} {t n : ℕ} → TalcExport s t b n z a
    → (r : Exported) × ExportSays s t b r z × (n ≡ export_number r) × (a ≡ in_bytes (export_numbers r))
export_says {s} {b} c = (export_of s (length b), logins.says (as_export c), c.is_number, c.is_answer)

-- and each is given exactly where what it says holds.
pub exactly : {s b z a : List ℕ} {t n : ℕ} → TalcExport s t b n z a → (r : Exported) → ExportSays s t b r z → (n ≡ export_number r) × (a ≡ in_bytes (export_numbers r))
exactly c r h =
    let e = logins.exactly (as_export c) r h in
    (c.is_number ∙ ap export_number e, c.is_answer ∙ ap (λ (x : Exported). in_bytes (export_numbers x)) e)

-- Q6.b "Output is unchanged in all of these."
pub refused_unchanged : {s b z a : List ℕ} {t n : ℕ} → TalcExport s t b n z a → (n ≡ 0 → ⊥) → z ≡ b
refused_unchanged {s} {b} {z} {a} {t} c h = c.is_output ∙ by (export_of s (length b)) (λ e. h (c.is_number ∙ e))
  where
    by : (r : Exported) → (export_number r ≡ 0 → ⊥) → output_after r t s b ≡ b
    by (Ok n) h = absurd (h refl)
    by (Err e) h = refl

-- Q6.e "No password leaves.": of two well-formed bodies whose records agree in UUID and the first group, title, user name and expiry, number, output and answer are the same, whatever else they hold.
pub no_password : {s s' b z z' a a' : List ℕ} {t n n' : ℕ} (w : WellFormed s) (w' : WellFormed s') → AgreeAll w.records w'.records
    → TalcExport s t b n z a → TalcExport s' t b n' z' a' → (n ≡ n') × (z ≡ z') × (a ≡ a')
no_password w w' h c d =
    let e = logins.no_password w w' h (as_export c) (as_export d) in (
      c.is_number ∙ ap export_number e.0 ∙ sym d.is_number,
      e.1,
      c.is_answer ∙ ap (λ (r : Exported). in_bytes (export_numbers r)) e.0 ∙ sym d.is_answer,
    )

-- ---- Q6.c: what is exported is taken back
-- 0 is returned where rows are written, as many as the answer says
pub rows_written : {s b z a : List ℕ} {t n : ℕ} → TalcExport s t b n z a → n ≡ 0 → (m : ℕ) × (a ≡ in_bytes (m ∷ 0 ∷ 0 ∷ [])) × Written s t b m z
rows_written {s} {b} {z} {a} {t} c h = by (export_of s (length b)) refl (sym c.is_number ∙ h)
  where
    by : (r : Exported) → export_of s (length b) ≡ r → export_number (export_of s (length b)) ≡ 0 → (m : ℕ) × (a ≡ in_bytes (m ∷ 0 ∷ 0 ∷ [])) × Written s t b m z
    by (Ok m) e h =
        (m, c.is_answer ∙ ap (λ (r : Exported). in_bytes (export_numbers r)) e, logins.says (subst (λ (r : Exported). Exports s t b r z) e (as_export c)))
    by (Err NotWellFormed) e h = absurd (omega (arith, ap export_number e))
    by (Err (Faulty f)) e h = absurd (omega (arith, ap export_number e))
    by (Err NoRoom) e h = absurd (omega (arith, ap export_number e))

module _ {s b z : List ℕ} {t m : ℕ} (w : Written s t b m z) where
  -- "Import gives the values of such a table back": it accepts the table, with all its rows
  pub taken_back : {k : ℕ} {d : List ℕ} → TalcImport (take (256 * m) z) k d → (k ≡ 0) × (d ≡ in_bytes (m ∷ 0 ∷ []))
  taken_back i =
      let e = logins.taken_back w (as_import i) in
      (i.is_number ∙ ap import_number e, i.is_answer ∙ ap (λ (r : Imported). in_bytes (import_numbers r)) e)

  -- and each row gives the values of its record: the UUID, the days, and of each text its length and, in its place, its bytes
  pub shown_back : {k : ℕ} {d : List ℕ} (before : List (List Stored)) (u : List Stored) (others : List (List Stored))
      → w.well_formed.records ≡ before ++ (u ∷ others) → TalcRow (take (256 * m) z) (length before) k d
      → (k ≡ 0) × (d ≡ in_bytes (row_numbers (Ok (Some (values_of (login_of t u)))))) × RowIs (take (256 * m) z) (length before) (login_of t u) (values_of (login_of t u))
  shown_back before u others e i =
      let f = logins.shown_back w before u others e (as_row i) in
      (i.is_number ∙ ap row_number f.0, i.is_answer ∙ ap (λ (r : Shown). in_bytes (row_numbers r)) f.0, f.1)

-- ---- Q6.d
-- "it refuses as 18, at the first such record, a cut record, a text that export would refuse or that has anything but zeros after it, and a non-zero pad": what each answer says.
pub import_says : {table a : List ℕ} {n : ℕ} → TalcImport table n a → (r : Imported) × ImportSays table r × (n ≡ import_number r) × (a ≡ in_bytes (import_numbers r))
import_says {table} c = (import_of table, rows.import_says (as_import c), c.is_number, c.is_answer)

zero_imported : (r : Imported) → import_number r ≡ 0 → (m : ℕ) × (r ≡ Ok m)
zero_imported (Ok m) e = (m, refl)
zero_imported (Err x) e = absurd (omega arith)

module _ {table a : List ℕ} {n : ℕ} (c : TalcImport table n a) where
  -- accepted exactly where there are logins that fit whose table it is
  pub accepted_exactly : (n ≡ 0) ↔ ((ls : List Login) × Holds table ls)
  accepted_exactly = (
    λ e.
        let m = zero_imported (import_of table) (sym c.is_number ∙ e) in
        let h = (rows.accepted_exactly (as_import c) m.0).0 m.1 in
        (h.0, h.1),
    λ h. c.is_number ∙ ap import_number ((rows.accepted_exactly (as_import c) (length h.0)).1 (h.0, h.1, refl)),
  )

  -- Q6.c: an accepted table is that of the logins whose values its rows give: laid again, they are the table, byte for byte
  pub laid_again : n ≡ 0
      → (ls : List Login) × (a ≡ in_bytes (length ls ∷ 0 ∷ [])) × (table_of ls ≡ table)
      × ((before : List Login) (l : Login) (others : List Login) (k : ℕ) (d : List ℕ) → ls ≡ before ++ (l ∷ others) → TalcRow table (length before) k d
      → (k ≡ 0) × (d ≡ in_bytes (row_numbers (Ok (Some (values_of l))))) × RowIs table (length before) l (values_of l))
  laid_again e =
      let m = zero_imported (import_of table) (sym c.is_number ∙ e) in
      let h = rows.laid_again (subst (Imports table) m.1 (as_import c)) in (
        h.0,
        c.is_answer ∙ ap (λ (r : Imported). in_bytes (import_numbers r)) m.1 ∙ ap (λ (x : ℕ). in_bytes (x ∷ 0 ∷ [])) h.1,
        h.2,
        λ before l others k d i r.
            let f = h.3 before l others (show_of table (length before)) i (as_row r) in
            (r.is_number ∙ ap row_number f.0, r.is_answer ∙ ap (λ (x : Shown). in_bytes (row_numbers x)) f.0, f.1),
      )

-- of one row, what each answer says
pub row_says : {table a : List ℕ} {i n : ℕ} → TalcRow table i n a → (r : Shown) × RowSays table i r × (n ≡ row_number r) × (a ≡ in_bytes (row_numbers r))
row_says {table} {a} {i} c = (show_of table i, rows.row_says (as_row c), c.is_number, c.is_answer)
