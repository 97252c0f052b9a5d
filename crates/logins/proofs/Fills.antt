-- The filling loop: the rows so far and those of the records ahead are the table; by what is read (Checks), and a part put behind what is written.
use Prim.Native.Nat.{ℕ, ◌+◌, ◌*◌, ◌<◌}
use mathlib.Core.Path.{◌≡◌, refl, sym, ap, ◌∙◌}
use mathlib.Core.Bool.{true}
use mathlib.Core.List.{List, [], ◌∷◌, ◌++◌, append_assoc, append-nil}
use native.Mathlib.Omega.{arith}
use lib.ListN.{length, drop, length-append, drop_of_length-le}
use lib.Seq.{drop-drop}
use borrow.Rule.Slice.PartMut.{put_mid}
use Rattle.words.proofs.SliceLaws.{put_next}
use Rattle.fields.specs.Stored.{Stored}
use Rattle.body.specs.Decision.{is_well_formed}
use Rattle.body.specs.RecordAt.{record_at}
use Rattle.body.specs.declared.records.Record.{Record}
use Rattle.body.proofs.Ahead.{Met}
use Rattle.rows.specs.Login.{row_of, table_of}
use Rattle.rows.proofs.Back.{row_long}
use Rattle.logins.specs.Record.{login_of}
use Rattle.logins.specs.Export.{body_records, table_from, login_at}
use Rattle.logins.proofs.Checks.{Reads, reads_start, reads_turn, reads_next, reads_stop}

-- w is the rows of the n records that are read, and the output is now `out`; b is what it held at first
pub record Fills (s : List ℕ) (t : ℕ) (b : List ℕ) (p n : ℕ) (out : List ℕ) : Type 0 where
  reads : Reads s p n
  w : List ℕ
  long : length w ≡ 256 * n
  out_is : out ≡ w ++ drop (256 * n) b
  rest : w ++ table_from t reads.records ≡ table_from t (body_records s)

pub fills_start : (s : List ℕ) (t : ℕ) (b : List ℕ) (h : Record) → is_well_formed s ≡ true → h ≡ record_at s 0 → Fills s t b h.next 0 b
fills_start s t b h w e = record { reads = reads_start s h w e; w = []; long = refl; out_is = refl; rest = refl }

rows_next : (t : ℕ) (u : List Stored) (us : List (List Stored)) → table_from t (u ∷ us) ≡ row_of (login_of t u) ++ table_from t us
unfolding table_from table_of
rows_next t u us = refl

rows_none : (t : ℕ) → table_from t [] ≡ []
unfolding table_from table_of
rows_none t = refl

module _ (s : List ℕ) (t : ℕ) (b : List ℕ) (p n : ℕ) (out : List ℕ) (f : Fills s t b p n out) where
  pub fills_stop : n ≡ length (body_records s) → length b ≡ 256 * n → out ≡ table_from t (body_records s)
  fills_stop e l =
      let z = reads_stop s p n f.reads (omega arith) in
      let v : f.w ≡ table_from t (body_records s) = sym (append-nil f.w) ∙ ap (◌++◌ f.w) (sym (rows_none t)) ∙ ap (λ (x : List (List Stored)). f.w ++ table_from t x) (sym z) ∙ f.rest in
      f.out_is ∙ rw (drop_of_length-le b {i = 256 * n} (omega arith)) (append-nil f.w) ∙ v

  module _ (r : Record) (l : n < length (body_records s)) (e : r ≡ record_at s p) where
    abbrev met : Met s p f.reads.records r
    met = reads_turn s p n f.reads l r e

    login_is : login_at t s r.firsts ≡ login_of t met.u
    unfolding login_at login_of
    login_is = rw (met.uuid, met.title, met.user, met.group, met.expiry)

    -- the row y goes into the k bytes behind what is written
    pub fills_next : (y : List ℕ) (k : ℕ) → y ≡ row_of (login_at t s r.firsts) → k ≡ 256 → Fills s t b r.next (n + 1) (put_mid (256 * n) k out y)
    fills_next y k i j =
        let z : 256 * n + 256 ≡ 256 * (n + 1) = omega arith in
        record {
          reads = reads_next s p n f.reads r met;
          w = f.w ++ y;
          long = length-append f.w y ∙ rw (f.long, ap length i ∙ row_long (login_at t s r.firsts)) z;
          out_is = rw (f.out_is, j) (put_next f.w y (drop (256 * n) b) y (256 * n) 256 f.long refl ∙ ap (λ (v : List ℕ). (f.w ++ y) ++ v) (drop-drop 256 (256 * n) b ∙ ap (λ (q : ℕ). drop q b) z));
          rest = append_assoc f.w y (table_from t met.us)
              ∙ ap (λ (v : List ℕ). f.w ++ (v ++ table_from t met.us)) (i ∙ ap row_of login_is)
              ∙ ap (◌++◌ f.w) (sym (rows_next t met.u met.us))
              ∙ ap (λ (v : List (List Stored)). f.w ++ table_from t v) (sym met.are) ∙ f.rest;
        }
