-- A row and its login are each other's: what fits comes back from its row, and a fine row is the row of what it holds. Part by part: a row is its columns, one after the other.
use Prim.Native.Nat.{ℕ, ◌+◌, ◌*◌, ◌^◌, ◌<◌}
use mathlib.Core.Path.{◌≡◌, refl, sym, ap, subst, ◌∙◌}
use mathlib.Core.Bool.{true}
use mathlib.Core.List.{List, ◌++◌}
use native.Mathlib.Nat.{mod-eq_of_lt}
use native.Mathlib.Omega.{arith}
use lib.Dec.{eqb}
use lib.ListN.{length, take, drop, length-take, length-drop, length-append, take-append-drop}
use lib.Seq.{take_at, take_all, drop_at, drop-drop, length-take-le}
use borrow.Author.Tests.{eq-eqb, eqb-true}
use Rattle.words.specs.Numbers.{number_low, bytes_low, Bytes}
use Rattle.words.specs.Slices.{zeros}
use Rattle.words.proofs.ByteLaws.{bytes_take, bytes_drop}
use Rattle.words.proofs.NumberLaws.{number_bytes, bytes_number, number_fits, bytes_sized}
use Rattle.words.proofs.SliceLaws.{same_refl, same_true}
use Rattle.words.proofs.EachLaws.{both}
use Rattle.rows.specs.Login.{Login, padded, row_of}
use Rattle.rows.specs.Fit.{Fits}
use Rattle.rows.specs.Import.{column, fine_column, fine_row, login_in}
use Rattle.rows.proofs.Padding.{padded_long, padded_full}
use Rattle.rows.proofs.Texts.{text_back, text_fine, fine_text, fine_column_lem}

-- the columns of a row are those of a login
record ColumnsAre (l : Login) (r : List ℕ) : Type 0 where
  uuid : take 16 r ≡ padded 16 l.uuid
  title : column 16 80 r ≡ padded 80 l.title
  user : column 96 80 r ≡ padded 80 l.user
  group : column 176 72 r ≡ padded 72 l.group
  days : column 248 4 r ≡ bytes_low 4 l.days
  pad : drop 252 r ≡ zeros 4

-- b stands at p, and the rest after it
first : (p n : ℕ) (r b c : List ℕ) → drop p r ≡ b ++ c → length b ≡ n → (column p n r ≡ b) × (drop (p + n) r ≡ c)
first p n r b c e h = (rw e (take_at b c n h), sym (drop-drop n p r) ∙ rw e (drop_at b c n h))

row_holds : (l : Login) → ColumnsAre l (row_of l)
unfolding row_of
row_holds l =
    let a = first 0 16 (row_of l) (padded 16 l.uuid) _ refl (padded_long 16 l.uuid) in
    let b = first 16 80 (row_of l) (padded 80 l.title) _ a.1 (padded_long 80 l.title) in
    let c = first 96 80 (row_of l) (padded 80 l.user) _ b.1 (padded_long 80 l.user) in
    let d = first 176 72 (row_of l) (padded 72 l.group) _ c.1 (padded_long 72 l.group) in
    let e = first 248 4 (row_of l) (bytes_low 4 l.days) _ d.1 (bytes_sized 4 l.days).long in
    record { uuid = a.0; title = b.0; user = c.0; group = d.0; days = e.0; pad = e.1 }

peel : (p n : ℕ) (r : List ℕ) → drop p r ≡ column p n r ++ drop (p + n) r
peel p n r = sym (take-append-drop n (drop p r)) ∙ ap (λ (x : List ℕ). column p n r ++ x) (drop-drop n p r)

holds_row : (l : Login) (r : List ℕ) → ColumnsAre l r → row_of l ≡ r
unfolding row_of
holds_row l r h =
    sym (peel 0 16 r ∙ rw (h.uuid, peel 16 80 r, h.title, peel 96 80 r, h.user, peel 176 72 r, h.group, peel 248 4 r, h.days, h.pad))

pub row_long : (l : Login) → length (row_of l) ≡ 256
unfolding row_of
row_long l = simp (length-append, padded_long, (bytes_sized 4 l.days).long)

-- ==== What fits is fine, and comes back.
module _ (l : Login) (f : Fits l) where
  held : ColumnsAre l (row_of l)
  held = row_holds l

  pub fits_fine : fine_row (row_of l) ≡ true
  unfolding fine_row
  fits_fine =
      let p : column 252 4 (row_of l) ≡ zeros 4 = ap (take 4) held.pad in
      rw (
        eq-eqb (length (row_of l)) 256 (row_long l),
        held.title,
        text_fine 0x03 80 l.title f.title,
        held.user,
        text_fine 0x04 80 l.user f.user,
        held.group,
        text_fine 0x02 72 l.group f.group,
        p,
      ) (same_refl (zeros 4))

  pub fits_back : login_in (row_of l) ≡ l
  unfolding login_in
  fits_back =
      let n : number_low (bytes_low 4 l.days) ≡ l.days = number_bytes 4 l.days ∙ mod-eq_of_lt {n = l.days} {m = 2 ^ 32} f.days in
      rw (
        held.uuid,
        padded_full 16 l.uuid f.uuid,
        held.title,
        text_back 0x03 80 l.title f.title,
        held.user,
        text_back 0x04 80 l.user f.user,
        held.group,
        text_back 0x02 72 l.group f.group,
        held.days,
        n,
      )

-- ==== What is fine fits, and is its login's row.
record Tested (r : List ℕ) : Type 0 where
  long : length r ≡ 256
  title : fine_column 0x03 80 (column 16 80 r) ≡ true
  user : fine_column 0x04 80 (column 96 80 r) ≡ true
  group : fine_column 0x02 72 (column 176 72 r) ≡ true
  pad : column 252 4 r ≡ zeros 4

tested : (r : List ℕ) → fine_row r ≡ true → Tested r
unfolding fine_row
tested r h =
    let a = both (eqb (length r) 256) _ h in
    let b = both (fine_column 0x03 80 (column 16 80 r)) _ a.1 in
    let c = both (fine_column 0x04 80 (column 96 80 r)) _ b.1 in
    let d = both (fine_column 0x02 72 (column 176 72 r)) _ c.1 in
    record { long = eqb-true (length r) 256 a.0; title = b.0; user = c.0; group = d.0; pad = same_true (column 252 4 r) (zeros 4) d.1 }

module _ (r : List ℕ) (b : Bytes r) (f : fine_row r ≡ true) where
  passed : Tested r
  passed = tested r f

  uuid_long : length (take 16 r) ≡ 16
  uuid_long = length-take-le 16 r (omega (arith, passed.long))

  days_long : length (column 248 4 r) ≡ 4
  days_long = simp (length-take, length-drop) (omega (arith, passed.long))

  pub fine_fits : Fits (login_in r)
  unfolding login_in
  fine_fits =
      record {
        uuid = uuid_long;
        title = fine_text 0x03 80 (column 16 80 r) passed.title;
        user = fine_text 0x04 80 (column 96 80 r) passed.user;
        group = fine_text 0x02 72 (column 176 72 r) passed.group;
        days = subst (λ (k : ℕ). number_low (column 248 4 r) < 2 ^ (8 * k)) days_long (number_fits (bytes_take 4 (bytes_drop 248 b)));
      }

  pub fine_back : row_of (login_in r) ≡ r
  unfolding login_in
  fine_back =
      holds_row (login_in r) r
      record {
        uuid = sym (padded_full 16 (take 16 r) uuid_long);
        title = sym (fine_column_lem 0x03 80 (column 16 80 r) passed.title);
        user = sym (fine_column_lem 0x04 80 (column 96 80 r) passed.user);
        group = sym (fine_column_lem 0x02 72 (column 176 72 r) passed.group);
        days = sym (ap (λ (k : ℕ). bytes_low k (number_low (column 248 4 r))) (sym days_long) ∙ bytes_number (bytes_take 4 (bytes_drop 248 b)));
        pad = sym (take_all 4 (drop 252 r) (simp length-drop (omega (arith, passed.long)))) ∙ passed.pad;
      }
