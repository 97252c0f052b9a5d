-- Texts in columns: a text that fits is what its column holds, and a fine column is its text padded. Both by how many bytes stand before the first zero byte, for any width.
use Prim.Native.Nat.{ℕ, zero, suc, ◌-◌, ◌≤◌}
use mathlib.Core.Path.{◌≡◌, refl, sym, ap, ◌∙◌}
use mathlib.Core.Bool.{Bool, true, false, not, ◌||◌}
use mathlib.Core.List.{List, [], ◌∷◌, ◌++◌}
use lib.Dec.{eqb, ltb}
use lib.ListN.{length, take-append-drop}
use lib.Seq.{take_at, drop_at, length-take-le}
use borrow.Author.Tests.{ne_eqb, eqb-false, ltb-false, not-true}
use Rattle.fields.specs.Value.{value_of}
use Rattle.words.specs.Members.{among}
use Rattle.words.specs.Slices.{zeros, same}
use Rattle.words.proofs.EachLaws.{both}
use Rattle.words.proofs.SliceLaws.{same_refl, same_true}
use Rattle.rows.specs.Login.{padded}
use Rattle.rows.specs.Fit.{is_bad_text, unfit}
use Rattle.rows.specs.Import.{before_zero, text_in, behind_text, fine_column}
use Rattle.rows.proofs.Padding.{padded_is}
use Rattle.rows.proofs.Zero.{before_most}

neither : (a b : Bool) → (a || b) ≡ false → (a ≡ false) × (b ≡ false)
neither true b h = absurd (cc)
neither false b h = (refl, h)

pub text_fits : (k n : ℕ) (d : List ℕ) → unfit k n d ≡ false → (length d ≤ n) × (among 0 d ≡ false)
unfolding unfit
text_fits k n d h =
    let a = neither (ltb n (length d)) (is_bad_text (value_of true k d) || among 0 d) h in
    (ltb-false n (length d) a.0, (neither (is_bad_text (value_of true k d)) (among 0 d) a.1).1)

-- no zero byte, then zeros
before_zeros : (d : List ℕ) (m : ℕ) → among 0 d ≡ false → before_zero (d ++ zeros m) ≡ length d
unfolding before_zero
before_zeros [] zero h = refl
before_zeros [] (suc m) h = refl
before_zeros (b ∷ d) m h =
    let a = neither (eqb 0 b) (among 0 d) h in
    rw (ne_eqb b 0 (λ e. eqb-false 0 b a.0 (sym e)), before_zeros d m a.1)

module _ (k n : ℕ) (d : List ℕ) (h : unfit k n d ≡ false) where
  column_is : padded n d ≡ d ++ zeros (n - length d)
  column_is = padded_is n d (text_fits k n d h).0

  before_is : before_zero (padded n d) ≡ length d
  before_is = ap before_zero column_is ∙ before_zeros d (n - length d) (text_fits k n d h).1

  pub text_back : text_in (padded n d) ≡ d
  text_back = rw (before_is, column_is) (take_at d (zeros (n - length d)) (length d) refl)

  pub text_fine : fine_column k n (padded n d) ≡ true
  unfolding fine_column
  text_fine =
      let z : behind_text (padded n d) ≡ zeros (n - length d) = rw (before_is, column_is) (drop_at d (zeros (n - length d)) (length d) refl) in
      rw (text_back, h, z, before_is) (same_refl (zeros (n - length d)))

pub text_long : (c : List ℕ) → length (text_in c) ≡ before_zero c
text_long c = length-take-le (before_zero c) c (before_most c)

module _ (k n : ℕ) (c : List ℕ) (h : fine_column k n c ≡ true) where
  tests : (not (unfit k n (text_in c)) ≡ true) × (same (behind_text c) (zeros (n - before_zero c)) ≡ true)
  unfolding fine_column
  tests = both (not (unfit k n (text_in c))) (same (behind_text c) (zeros (n - before_zero c))) h

  pub fine_text : unfit k n (text_in c) ≡ false
  fine_text = not-true (unfit k n (text_in c)) tests.0

  pub fine_column_lem : padded n (text_in c) ≡ c
  fine_column_lem =
      padded_is n (text_in c) (text_fits k n (text_in c) fine_text).0
      ∙ rw (text_long c, sym (same_true (behind_text c) (zeros (n - before_zero c)) tests.1)) (take-append-drop (before_zero c) c)
