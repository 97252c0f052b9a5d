-- Bytes and zeros: where the first zero byte stands, whether there is one, and whether all are. By recursion on the list.
use Prim.Native.Nat.{ℕ, zero, suc, ◌+◌, ◌≤◌}
use mathlib.Core.Path.{◌≡◌, refl, sym, ap, ◌∙◌}
use mathlib.Core.Bool.{Bool, true, false, cond, ◌&&◌, ◌||◌}
use mathlib.Core.List.{List, [], ◌∷◌}
use native.Mathlib.Omega.{arith}
use lib.Dec.{eqb, ltb, leb-suc-suc, eqb-suc-zero, eqb-zero-suc}
use lib.ListN.{length}
use borrow.Author.Tests.{ne_eqb, eqb-true, eqb-false, lt-ltb, ltb-false}
use Rattle.std.specs.Prelude.{Some, None, unwrap_or}
use Rattle.std.specs.List.{list_any, list_all, position_or_len, position}
use Rattle.std.proofs.lemmas.List.Recursion.{is_position_or_len}
use Rattle.words.specs.Members.{among}
use Rattle.words.specs.Slices.{zeros, same}
use Rattle.rows.specs.Import.{before_zero}

pub before_most : (c : List ℕ) → before_zero c ≤ length c
unfolding before_zero
before_most [] = omega arith
before_most (b ∷ c) = by (eqb b 0) (before_most c)
  where
    by : (t : Bool) → before_zero c ≤ length c → cond t 0 (suc (before_zero c)) ≤ suc (length c)
    by true h = omega arith
    by false h = omega arith

as_position : (d : List ℕ) → before_zero d ≡ position_or_len (λ b. eqb b 0) d
unfolding before_zero
as_position d = is_position_or_len before_zero (λ b. eqb b 0) refl (λ b d. let z : suc (before_zero d) ≡ 1 + before_zero d = omega arith in ap (cond (eqb b 0) 0) z) d

pub first_zero : (d : List ℕ) → unwrap_or (position (λ b. eqb b 0) d) (length d) ≡ before_zero d
first_zero d = by (ltb p (length d)) refl
  where
    p : ℕ
    p = position_or_len (λ b. eqb b 0) d

    by : (t : Bool) → ltb p (length d) ≡ t → unwrap_or (cond t (Some p) None) (length d) ≡ before_zero d
    by true h = sym (as_position d)
    by false h = omega (arith, as_position d, before_most d, ltb-false p (length d) h)

turned : (b : ℕ) → eqb b 0 ≡ eqb 0 b
turned zero = refl
turned (suc b) = eqb-suc-zero b ∙ sym (eqb-zero-suc b)

pub some_zero : (d : List ℕ) → list_any (λ b. eqb b 0) d ≡ among 0 d
some_zero [] = refl
some_zero (b ∷ d) = rw (turned b, some_zero d)

pub no_other : (d : List ℕ) → list_all (λ b. eqb b 0) d ≡ same d (zeros (length d))
unfolding same
no_other [] = refl
no_other (b ∷ d) = by (eqb b 0) (no_other d)
  where
    by : (t : Bool) → list_all (λ b. eqb b 0) d ≡ same d (zeros (length d)) → (t && list_all (λ b. eqb b 0) d) ≡ cond t (same d (zeros (length d))) false
    by true h = h
    by false h = refl

-- a zero byte stands among them where fewer than all are before the first
pub zero_inside : (d : List ℕ) → among 0 d ≡ ltb (before_zero d) (length d)
unfolding before_zero
zero_inside [] = refl
zero_inside (b ∷ d) = by (eqb b 0) refl (zero_inside d)
  where
    by : (t : Bool) → eqb b 0 ≡ t → among 0 d ≡ ltb (before_zero d) (length d)
        → (eqb 0 b || among 0 d) ≡ ltb (cond t 0 (suc (before_zero d))) (suc (length d))
    by true e h = rw (eqb-true b 0 e) (sym (lt-ltb 0 (suc (length d)) (omega arith)))
    by false e h = rw (ne_eqb 0 b (λ z. eqb-false b 0 e (sym z)), leb-suc-suc (suc (before_zero d)) (length d)) h
