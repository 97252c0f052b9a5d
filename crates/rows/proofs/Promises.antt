-- What document 02's Q-6 says of import, of calls of `import` and `row`, each taken by its contract alone: by the laws of a table and its rows (Tables).
use Prim.Native.Nat.{ℕ, ◌+◌, ◌*◌, ◌≤◌}
use mathlib.Core.Path.{◌≡◌, refl, sym, ap, subst, ◌∙◌}
use mathlib.Core.Bool.{Bool, true, false, cond}
use mathlib.Core.Logic.{◌↔◌}
use mathlib.Core.List.{List, ◌∷◌, ◌++◌, append_assoc}
use native.Mathlib.Nat.{zero-add}
use native.Mathlib.Omega.{arith}
use lib.Dec.{leb}
use lib.ListN.{length, take, drop, length-append, take-append-drop}
use lib.Seq.{drop-drop, take-append_seam}
use borrow.Author.Tests.{leb-true, leb-false, lt-leb}
use Rattle.words.proofs.EachLaws.{each_middle}
use Rattle.words.proofs.SliceLaws.{part_of}
use Rattle.std.specs.Prelude.{Option, Some, None, Result, Ok, Err}
use Rattle.words.specs.Numbers.{Bytes}
use Rattle.rows.specs.Login.{Login, row_of, table_of}
use Rattle.rows.specs.Fit.{Fits}
use Rattle.rows.specs.Import.{row_at, count_of, column, before_zero, text_in, fine_row, login_in, import_from, import_of, values_of, show_of, Imports, Shows}
use Rattle.rows.specs.Says.{Holds, ImportSays, RowIs, RowSays}
use Rattle.rows.specs.declared.RowRefusal.{RowRefusal}
use Rattle.rows.specs.declared.Values.{Values}
use Rattle.rows.proofs.Back.{fits_back, fits_fine, fine_fits, fine_back}
use Rattle.rows.proofs.Tables.{table_long, row_of_lem, imported_all, logins_from, logins_many, fine_whole, row_bytes, row_within, all_fine, none_cut, rows_fine, refused_at}

-- Q6.d: a row is fine exactly where it is that of a login that fits
pub fine_exactly : (r : List ℕ) → Bytes r → (fine_row r ≡ true) ↔ ((l : Login) × Fits l × (r ≡ row_of l))
fine_exactly r b = (λ g. (login_in r, fine_fits r b g, sym (fine_back r b g)), λ h. ap fine_row h.2 ∙ fits_fine h.0 h.1)

-- a table of logins that fit is accepted, with all its rows
held_accepted : (t : List ℕ) (ls : List Login) → Holds t ls → import_of t ≡ Ok (length ls)
unfolding import_of
held_accepted t ls h =
    let n : count_of t ≡ length ls = omega (arith, ap length h.is_table ∙ table_long ls) in
    ap (import_from t 0) n ∙ imported_all t 0 ls h.is_table h.fits ∙ ap Ok (zero-add (length ls))

module _ {t : List ℕ} {a : Result ℕ RowRefusal} (c : Imports t a) where
  -- Q6.d "it refuses as 18, at the first such record, a cut record, a text that export would refuse or that has anything but zeros after it, and a non-zero pad": these alone.
  pub import_says : ImportSays t a
  unfolding import_of
  import_says = by a (sym c.is_answer)
    where
      by : (a : Result ℕ RowRefusal) → import_of t ≡ a → ImportSays t a
      by (Ok n) e =
          let r = rows_fine t 0 (count_of t) n e in
          let l = none_cut t r.1 in
          let f = all_fine t c.bytes 0 (count_of t) r.1 (omega (arith, l)) in
          (logins_from t 0 (count_of t), record { is_table = f.0; fits = f.1 }, r.0 ∙ zero-add (count_of t) ∙ sym (logins_many t 0 (count_of t)))
      by (Err f) e =
          let r = refused_at t 0 (count_of t) f.number e in
          record { there = omega (arith, r.1); bad = r.2; before = λ k h. r.3 k (omega arith) (omega arith) }

  -- Q6.d, as one line: accepted exactly where there are logins that fit whose table it is
  pub accepted_exactly : (n : ℕ) → (a ≡ Ok n) ↔ ((ls : List Login) × Holds t ls × (n ≡ length ls))
  accepted_exactly n = (
    λ e. subst (ImportSays t) e import_says,
    λ h. c.is_answer ∙ held_accepted t h.0 h.1 ∙ ap Ok (sym h.2),
  )

-- a column of a row, where it stands in the table
column_at : (t : List ℕ) (n p m : ℕ) → p + m ≤ 256 → column p m (row_at t n) ≡ take m (drop (256 * n + p) t)
column_at t n p m h = part_of m p 256 (drop (256 * n) t) h ∙ ap (take m) (drop-drop p (256 * n) t)

-- the start of a start is as many bytes of the whole
start_of : (i j : ℕ) (l : List ℕ) → take i (take j l) ≡ take (length (take i (take j l))) l
start_of i j l =
    let x = take i (take j l) in
    let e : l ≡ x ++ (drop i (take j l) ++ drop j l) = sym (take-append-drop j l) ∙ ap (λ (v : List ℕ). v ++ drop j l) (sym (take-append-drop i (take j l))) ∙ append_assoc x (drop i (take j l)) (drop j l) in
    sym (ap (take (length x)) e ∙ take-append_seam x (drop i (take j l) ++ drop j l))

text_at : (t : List ℕ) (n p m : ℕ) → p + m ≤ 256 → text_in (column p m (row_at t n)) ≡ take (length (text_in (column p m (row_at t n)))) (drop (256 * n + p) t)
text_at t n p m h = rw (column_at t n p m h) (start_of (before_zero (take m (drop (256 * n + p) t))) m (drop (256 * n + p) t))

-- the answer where the row is fine, and where it is not
module _ (t : List ℕ) (n : ℕ) where
  show_of_lem : (b f : Bool) → leb (length t) (256 * n) ≡ b → fine_row (row_at t n) ≡ f → show_of t n ≡ cond b (Ok None) (cond f (Ok (Some (values_of (login_in (row_at t n))))) (Err (record { number = n })))
  unfolding show_of
  show_of_lem b f e g = rw (e, g)

  row_is : Bytes t → fine_row (row_at t n) ≡ true → RowIs t n (login_in (row_at t n)) (values_of (login_in (row_at t n)))
  unfolding login_in
  row_is b g =
      record {
        fits = fine_fits (row_at t n) (row_bytes t b n) g;
        there = row_within t n (fine_whole (row_at t n) g);
        row = sym (fine_back (row_at t n) (row_bytes t b n) g);
        values = refl;
        title = text_at t n 16 80 (omega arith);
        user = text_at t n 96 80 (omega arith);
        group = text_at t n 176 72 (omega arith);
      }

module _ {t : List ℕ} {n : ℕ} {a : Result (Option Values) RowRefusal} (c : Shows t n a) where
  -- Q6.c "Import gives the values of such a table back": of one row, what each answer says.
  pub row_says : RowSays t n a
  row_says = by (leb (length t) (256 * n)) (fine_row (row_at t n)) refl refl
    where
      by : (b f : Bool) → leb (length t) (256 * n) ≡ b → fine_row (row_at t n) ≡ f → RowSays t n a
      by true f e g = subst (RowSays t n) (sym (c.is_answer ∙ show_of_lem t n true f e g)) (leb-true (length t) (256 * n) e)
      by false true e g = subst (RowSays t n) (sym (c.is_answer ∙ show_of_lem t n false true e g)) (login_in (row_at t n), row_is t n c.bytes g)
      by false false e g = subst (RowSays t n) (sym (c.is_answer ∙ show_of_lem t n false false e g)) (leb-false (length t) (256 * n) e, g, refl)

-- Q6.c: of a table of logins that fit, each row gives the values of its login.
pub shown_back : {t : List ℕ} {a : Result (Option Values) RowRefusal} (before : List Login) (l : Login) (others : List Login) → Holds t (before ++ (l ∷ others)) → Shows t (length before) a
    → (a ≡ Ok (Some (values_of l))) × RowIs t (length before) l (values_of l)
shown_back {t} {a} before l others h c =
    let f : Fits l = each_middle Fits before l others h.fits in
    let r : row_at t (length before) ≡ row_of l = ap (λ (x : List ℕ). row_at x (length before)) h.is_table ∙ row_of_lem before l others in
    let n : length t ≡ 256 * (length before + length (l ∷ others)) = ap length h.is_table ∙ table_long (before ++ (l ∷ others)) ∙ ap (λ (x : ℕ). 256 * x) (length-append before (l ∷ others)) in
    let i : login_in (row_at t (length before)) ≡ l = ap login_in r ∙ fits_back l f in
    let g : fine_row (row_at t (length before)) ≡ true = ap fine_row r ∙ fits_fine l f in (
      c.is_answer ∙ show_of_lem t (length before) false true (lt-leb (length t) (256 * length before) (omega arith)) g ∙ ap (λ (x : Login). Ok (Some (values_of x))) i,
      subst (λ (x : Login). RowIs t (length before) x (values_of x)) i (row_is t (length before) c.bytes g),
    )

-- Q6.c: an accepted table is that of the logins whose values its rows give: laid again, they are the table, byte for byte.
pub laid_again : {t : List ℕ} {n : ℕ} → Imports t (Ok n)
    → (ls : List Login) × (n ≡ length ls) × (table_of ls ≡ t)
    × ((before : List Login) (l : Login) (others : List Login) (a : Result (Option Values) RowRefusal) → ls ≡ before ++ (l ∷ others) → Shows t (length before) a
    → (a ≡ Ok (Some (values_of l))) × RowIs t (length before) l (values_of l))
laid_again {t} c =
    let h = import_says c in
    (h.0, h.2, sym h.1.is_table, λ before l others a e s. shown_back before l others (subst (Holds t) e h.1) s)
