-- A table taken back row by row: what the rows ahead give is what the table gives; a cut row is never fine, and is the last. By the number of rows that are left.
use Prim.Native.Nat.{ℕ, zero, suc, ◌+◌, ◌-◌, ◌*◌, ◌/◌, ◌%◌, ◌<◌, ◌≤◌}
use mathlib.Core.Path.{◌≡◌, refl, sym, ap, ◌∙◌}
use mathlib.Core.Bool.{Bool, true, false, cond}
use mathlib.Core.List.{List, []}
use native.Mathlib.Omega.{arith}
use lib.ListN.{length, get_or, take, drop, length-take, length-drop}
use lib.Seq.{drop-drop}
use borrow.Author.Tests.{le-leb, lt-leb}
use Rattle.std.specs.Prelude.{Some, None, Ok, Err}
use Rattle.std.specs.Simd.{first_chunks}
use Rattle.rows.specs.Import.{row_at, count_of, fine_row, import_from, import_of, login_in, values_of, show_of}
use Rattle.rows.specs.declared.RowRefusal.{RowRefusal}
use Rattle.rows.specs.declared.Values.{Values}
use Rattle.rows.proofs.Tables.{fine_whole}

chunk_at : (t : List ℕ) (k n : ℕ) (d : List ℕ) → n < k → get_or (first_chunks 256 k t) n d ≡ row_at t n
chunk_at t zero n d h = absurd (omega arith)
chunk_at t (suc k) zero d h = refl
chunk_at t (suc k) (suc n) d h =
    let z : 256 + 256 * n ≡ 256 * suc n = omega arith in
    chunk_at (drop 256 t) k n d (omega arith) ∙ ap (take 256) (drop-drop (256 * n) 256 t ∙ ap (λ (m : ℕ). drop m t) z)

pub chunk_is : (t : List ℕ) (rows : List (List ℕ)) (n : ℕ) → rows ≡ first_chunks 256 (length t / 256) t → n < length t / 256 → get_or rows n [] ≡ row_at t n
chunk_is t rows n e h = ap (λ (rs : List (List ℕ)). get_or rs n []) e ∙ chunk_at t (length t / 256) n [] h

abbrev refused : ℕ → RowRefusal
refused n = record { number = n }

pub taken_start : (t : List ℕ) → import_of t ≡ import_from t 0 (count_of t - 0)
unfolding import_of
taken_start t = let z : count_of t - 0 ≡ count_of t = omega arith in rw z

module _ (t : List ℕ) (n : ℕ) where
  cut : length t < 256 * n + 256 → fine_row (row_at t n) ≡ false
  cut h = by (fine_row (row_at t n)) refl
    where
      by : (b : Bool) → fine_row (row_at t n) ≡ b → b ≡ false
      by true e = absurd (omega (arith, fine_whole (row_at t n) e, length-take 256 (drop (256 * n) t), length-drop (256 * n) t))
      by false e = refl

  module _ (h : import_of t ≡ import_from t n (count_of t - n)) where
    -- row n is there
    here : 256 * n < length t → (x : Bool) → fine_row (row_at t n) ≡ x → import_of t ≡ cond x (import_from t (n + 1) (count_of t - (n + 1))) (Err (refused n))
    unfolding import_from
    here l x e = let m : count_of t - n ≡ suc (count_of t - (n + 1)) = omega arith in h ∙ rw (m, e)

    module _ (l : n < length t / 256) (x : Bool) (e : x ≡ fine_row (row_at t n)) where
      pub taken_next : x ≡ true → import_of t ≡ import_from t (n + 1) (count_of t - (n + 1))
      taken_next f = here (omega arith) true (sym e ∙ f)

      pub taken_fault : x ≡ false → Err (refused n) ≡ import_of t
      taken_fault f = sym (here (omega arith) false (sym e ∙ f))

    module _ (m : ℕ) (e : m ≡ n) (l : m ≡ length t / 256) where
      pub taken_all : length t % 256 ≡ 0 → Ok m ≡ import_of t
      unfolding import_from
      taken_all k = let z : count_of t - n ≡ 0 = omega arith in ap Ok e ∙ sym (h ∙ rw z)

      pub taken_cut : (length t % 256 ≡ 0 → ⊥) → Err (refused m) ≡ import_of t
      taken_cut k = ap (λ (x : ℕ). Err (refused x)) e ∙ sym (here (omega arith) false (cut (omega arith)))

  module _ (l : n < length t / 256) (x : Bool) (e : x ≡ fine_row (row_at t n)) where
    there : show_of t n ≡ cond x (Ok (Some (values_of (login_in (row_at t n))))) (Err (refused n))
    unfolding show_of
    there = rw (lt-leb (length t) (256 * n) (omega arith), ← e)

    pub shown_of : (v : Values) → x ≡ true → v ≡ values_of (login_in (row_at t n)) → Ok (Some v) ≡ show_of t n
    shown_of v f g = sym (there ∙ rw (f, g))

    pub shown_refused : x ≡ false → Err (refused n) ≡ show_of t n
    shown_refused f = sym (there ∙ rw f)

  pub shown_nowhere : length t ≤ 256 * n → Ok None ≡ show_of t n
  unfolding show_of
  shown_nowhere h = rw (le-leb (length t) (256 * n) h)

  pub shown_cut : 256 * n < length t → length t < 256 * n + 256 → Err (refused n) ≡ show_of t n
  unfolding show_of
  shown_cut h l = rw (lt-leb (length t) (256 * n) h, cut l)
