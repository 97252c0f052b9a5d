-- A table and its rows: the rows of logins stand one after the other, 256 bytes each; and bytes whose every row is fine are the table of the logins in them. By recursion on the logins, and on the rows that are left.
use Prim.Native.Nat.{ℕ, zero, suc, ◌+◌, ◌-◌, ◌*◌, ◌<◌, ◌≤◌}
use mathlib.Core.Path.{◌≡◌, refl, sym, ap, ap₂, ◌∙◌}
use mathlib.Core.Bool.{Bool, true, false, cond}
use mathlib.Core.List.{List, [], ◌∷◌, ◌++◌}
use native.Mathlib.Nat.{add-zero, zero-add}
use native.Mathlib.Omega.{arith}
use lib.Dec.{eqb}
use lib.ListN.{length, take, drop, length-append, length-take, length-drop, take-append-drop}
use lib.Seq.{take_at, drop_at, drop-drop}
use borrow.Author.Tests.{eqb-true, eqb-false}
use Rattle.std.specs.Prelude.{Ok, Err}
use Rattle.words.specs.Each.{Each}
use Rattle.words.specs.Numbers.{Bytes}
use Rattle.words.proofs.ByteLaws.{bytes_take, bytes_drop}
use Rattle.words.proofs.EachLaws.{both}
use Rattle.rows.specs.Login.{Login, row_of, table_of}
use Rattle.rows.specs.Fit.{Fits}
use Rattle.rows.specs.Import.{row_at, count_of, fine_row, login_in, import_from}
use Rattle.rows.specs.declared.RowRefusal.{RowRefusal}
use Rattle.rows.proofs.Back.{row_long, fits_fine, fine_fits, fine_back}

-- ---- the rows of logins
pub table_long : (ls : List Login) → length (table_of ls) ≡ 256 * length ls
unfolding table_of
table_long [] = refl
table_long (l ∷ ls) = length-append (row_of l) (table_of ls) ∙ rw (row_long l, table_long ls) (omega arith)

table_first : (l : Login) (ls : List Login) → take 256 (table_of (l ∷ ls)) ≡ row_of l
unfolding table_of
table_first l ls = take_at (row_of l) (table_of ls) 256 (row_long l)

table_others : (l : Login) (ls : List Login) → drop 256 (table_of (l ∷ ls)) ≡ table_of ls
unfolding table_of
table_others l ls = drop_at (row_of l) (table_of ls) 256 (row_long l)

-- behind n rows the next row starts
further : (t : List ℕ) (n : ℕ) → drop 256 (drop (256 * n) t) ≡ drop (256 * (n + 1)) t
further t n = let z : 256 * n + 256 ≡ 256 * (n + 1) = omega arith in drop-drop 256 (256 * n) t ∙ ap (λ (k : ℕ). drop k t) z

pub behind : (before ls : List Login) (t : List ℕ) (n : ℕ) → drop (256 * n) t ≡ table_of (before ++ ls) → drop (256 * (n + length before)) t ≡ table_of ls
behind [] ls t n e = rw (add-zero n) e
behind (l ∷ before) ls t n e =
    let z : n + 1 + length before ≡ n + suc (length before) = omega arith in
    rw (← z) (behind before ls t (n + 1) (sym (further t n) ∙ ap (drop 256) e ∙ table_others l (before ++ ls)))

-- the row of one of them
pub row_of_lem : (before : List Login) (l : Login) (others : List Login) → row_at (table_of (before ++ (l ∷ others))) (length before) ≡ row_of l
row_of_lem before l others =
    let t = table_of (before ++ (l ∷ others)) in
    ap (λ (k : ℕ). take 256 (drop (256 * k) t)) (sym (zero-add (length before))) ∙ ap (take 256) (behind before (l ∷ others) t 0 refl) ∙ table_first l others

-- ---- from logins that fit to an import that is accepted
pub imported_all : (t : List ℕ) (n : ℕ) (ls : List Login) → drop (256 * n) t ≡ table_of ls → Each Fits ls → import_from t n (length ls) ≡ Ok (n + length ls)
unfolding import_from
imported_all t n [] e f = rw (add-zero n)
imported_all t n (l ∷ ls) e f =
    let r : row_at t n ≡ row_of l = ap (take 256) e ∙ table_first l ls in
    let g : fine_row (row_at t n) ≡ true = ap fine_row r ∙ fits_fine l f.0 in
    let z : n + 1 + length ls ≡ n + suc (length ls) = omega arith in
    rw (g, ← z) (imported_all t (n + 1) ls (sym (further t n) ∙ ap (drop 256) e ∙ table_others l ls) f.1)

-- ---- and back
-- the logins of m rows from row n on
unfoldable pub logins_from : List ℕ → ℕ → ℕ → List Login
logins_from t n zero = []
logins_from t n (suc m) = login_in (row_at t n) ∷ logins_from t (n + 1) m

pub logins_many : (t : List ℕ) (n m : ℕ) → length (logins_from t n m) ≡ m
unfolding logins_from
logins_many t n zero = refl
logins_many t n (suc m) = ap suc (logins_many t (n + 1) m)

-- the rows from n on are fine
abbrev pub FineFrom : List ℕ → ℕ → ℕ → Type 0
FineFrom t n m = (k : ℕ) → n ≤ k → k < n + m → fine_row (row_at t k) ≡ true

fine_first : (t : List ℕ) (n m : ℕ) → fine_row (row_at t n) ≡ true → FineFrom t (n + 1) m → (k : ℕ) → n ≤ k → k < n + 1 + m → fine_row (row_at t k) ≡ true
fine_first t n m g f k p q = by (eqb k n) refl
  where
    by : (b : Bool) → eqb k n ≡ b → fine_row (row_at t k) ≡ true
    by true i = ap (λ (x : ℕ). fine_row (row_at t x)) (eqb-true k n i) ∙ g
    by false i = let d = eqb-false k n i in f k (by_cases d) q
      where
        by_cases : (k ≡ n → ⊥) → n + 1 ≤ k
        by_cases d = omega arith

pub fine_whole : (r : List ℕ) → fine_row r ≡ true → length r ≡ 256
unfolding fine_row
fine_whole r h = eqb-true _ _ (both (eqb (length r) 256) _ h).0

pub row_within : (t : List ℕ) (n : ℕ) → length (row_at t n) ≡ 256 → 256 * n + 256 ≤ length t
row_within t n h = omega (arith, sym (length-take 256 (drop (256 * n) t)) ∙ h, length-drop (256 * n) t)

pub row_bytes : (t : List ℕ) → Bytes t → (n : ℕ) → Bytes (row_at t n)
row_bytes t b n = bytes_take 256 (bytes_drop (256 * n) b)

pub all_fine : (t : List ℕ) → Bytes t → (n m : ℕ) → FineFrom t n m → length t ≤ 256 * (n + m) → (drop (256 * n) t ≡ table_of (logins_from t n m)) × Each Fits (logins_from t n m)
unfolding logins_from table_of
all_fine t b n zero f h = (nothing, tt)
  where
    nothing : drop (256 * n) t ≡ []
    nothing = empty (drop (256 * n) t) (omega (arith, length-drop (256 * n) t))
      where
        empty : (l : List ℕ) → length l ≡ 0 → l ≡ []
        empty [] e = refl
        empty (a ∷ l) e = absurd (omega arith)
all_fine t b n (suc m) f h =
    let g = f n (omega arith) (omega arith) in
    let r = row_bytes t b n in
    let ih = all_fine t b (n + 1) m (λ k i j. f k (omega arith) (omega arith)) (omega arith) in (
      sym (take-append-drop 256 (drop (256 * n) t)) ∙ ap₂ ◌++◌ (sym (fine_back (row_at t n) r g)) (further t n ∙ ih.0),
      (fine_fits (row_at t n) r g, ih.1),
    )

-- where every row is fine, a cut one included, none is cut
pub none_cut : (t : List ℕ) → FineFrom t 0 (count_of t) → length t ≡ 256 * count_of t
none_cut t f = by (count_of t) refl f
  where
    by : (c : ℕ) → count_of t ≡ c → FineFrom t 0 c → length t ≡ 256 * c
    by zero e f = omega arith
    by (suc c) e f = omega (arith, row_within t c (fine_whole (row_at t c) (f c (omega arith) (omega arith))))

-- ---- what the rows say of an import
module _ (t : List ℕ) where
  pub rows_fine : (n m k : ℕ) → import_from t n m ≡ Ok k → (k ≡ n + m) × FineFrom t n m
  unfolding import_from
  rows_fine n zero k e = (let i : k ≡ n = cc in omega arith, λ j p q. absurd (omega arith))
  rows_fine n (suc m) k e = by (fine_row (row_at t n)) refl e (rows_fine (n + 1) m k)
    where
      by : (b : Bool) → fine_row (row_at t n) ≡ b → cond b (import_from t (n + 1) m) (Err (record { number = n })) ≡ Ok k
          → (import_from t (n + 1) m ≡ Ok k → (k ≡ n + 1 + m) × FineFrom t (n + 1) m) → (k ≡ n + suc m) × FineFrom t n (suc m)
      by true g e ih = let x = ih e in (omega (arith, x.0), λ j p q. fine_first t n m g x.1 j p (omega arith))
      by false g e ih = absurd (cc)

  pub refused_at : (n m k : ℕ) → import_from t n m ≡ Err (record { number = k }) → (n ≤ k) × (k < n + m) × (fine_row (row_at t k) ≡ false) × FineFrom t n (k - n)
  unfolding import_from
  refused_at n zero k e = absurd (cc)
  refused_at n (suc m) k e = by (fine_row (row_at t n)) refl e (refused_at (n + 1) m k)
    where
      by : (b : Bool) → fine_row (row_at t n) ≡ b → cond b (import_from t (n + 1) m) (Err (record { number = n })) ≡ Err (record { number = k })
          → (import_from t (n + 1) m ≡ Err (record { number = k }) → (n + 1 ≤ k) × (k < n + 1 + m) × (fine_row (row_at t k) ≡ false) × FineFrom t (n + 1) (k - (n + 1)))
          → (n ≤ k) × (k < n + suc m) × (fine_row (row_at t k) ≡ false) × FineFrom t n (k - n)
      by true g e ih = let x = ih e in (omega (arith, x.0), omega (arith, x.1), x.2, λ j p q. fine_first t n (k - (n + 1)) g x.3 j p (omega (arith, x.0)))
      by false g e ih =
          let j : ◌≡◌ {A = RowRefusal} (record { number = n }) (record { number = k }) = cc in
          let i : k ≡ n = sym (ap (λ (x : RowRefusal). x.number) j) in
          (omega arith, omega arith, ap (λ (x : ℕ). fine_row (row_at t x)) i ∙ g, λ j p q. absurd (omega arith))
