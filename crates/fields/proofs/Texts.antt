-- A field of a Text type holds Text exactly when its data is a text by RFC 3629's grammar and document 01, and else BadText with the number at which it goes wrong: by the answer
-- of `text`. BadText is of no other field, and its number less than the length: by the list of values.
use Prim.Native.Nat.{ℕ, ◌<◌}
use mathlib.Core.Path.{◌≡◌, refl, ap, ◌∙◌}
use mathlib.Core.Logic.{◌↔◌}
use mathlib.Core.Bool.{Bool, cond}
use mathlib.Core.List.{List}
use lib.ListN.{length}
use Rattle.std.proofs.Common.{Option, None, Some, arith}
use Rattle.std.proofs.lemmas.Bool.Decides.{nat_tests}
use Rattle.text.specs.Grammar.{IsText}
use Rattle.text.specs.GoesWrong.{GoesWrongAt}
use Rattle.text.specs.Decision.{goes_wrong_of}
use Rattle.text.proofs.GoesWrong.{nowhere_exactly, number_exactly, number_less}
use Rattle.fields.specs.declared.value.Shape.{Shape}
use Rattle.fields.specs.declared.value.Value.{Value}
use Rattle.fields.specs.Value.{header_shape, record_shape, textual, value_of}
use Rattle.fields.specs.Stamp.{OldStamp}
use Rattle.fields.proofs.Stamps.{as_listed}

-- END is of no Text type, nor is an old save stamp
not_end : (r : Bool) (k : ℕ) → cond r (record_shape k) (header_shape k) ≡ Shape.Text → k ≡ 0xff → ⊥
unfolding record_shape header_shape
not_end r k h e = grind (arith, nat_tests)

not_stamp : (r : Bool) (k : ℕ) (d : List ℕ) → cond r (record_shape k) (header_shape k) ≡ Shape.Text → OldStamp r k d → ⊥
unfolding header_shape
not_stamp r k d h o = grind (arith, nat_tests)

module _ (r : Bool) (k : ℕ) (d : List ℕ) (shape : cond r (record_shape k) (header_shape k) ≡ Shape.Text) (some : length d ≡ 0 → ⊥) where
  decided : value_of r k d ≡ textual (goes_wrong_of d)
  decided = grind (arith, nat_tests, as_listed r k d (not_stamp r k d shape), not_end r k shape)

  pub text_exactly : (value_of r k d ≡ Value.Text) ↔ IsText d
  text_exactly = grind (arith, decided, nowhere_exactly d)

  pub bad_exactly : (n : ℕ) → (value_of r k d ≡ Value.BadText n) ↔ GoesWrongAt d n
  bad_exactly n = grind (arith, decided, number_exactly d n)

  pub else_bad : (IsText d → ⊥) → (n : ℕ) × (value_of r k d ≡ Value.BadText n)
  else_bad h = by (goes_wrong_of d) refl
    where
      by : (w : Option ℕ) → goes_wrong_of d ≡ w → (n : ℕ) × (value_of r k d ≡ Value.BadText n)
      by None e = absurd (h ((nowhere_exactly d).0 e))
      by (Some n) e = (n, decided ∙ ap textual e)

-- ---- BadText, of whatever field
-- its type is a Text type, and its number less than the length of its data
pub record BadIn (r : Bool) (k : ℕ) (d : List ℕ) (n : ℕ) : Type 0 where
  pub shape : cond r (record_shape k) (header_shape k) ≡ Shape.Text
  pub less : n < length d

pub bad_in : (r : Bool) (k : ℕ) (d : List ℕ) (n : ℕ) → value_of r k d ≡ Value.BadText n → BadIn r k d n
unfolding value_of
bad_in r k d n h = let l = number_less d n in grind (arith, nat_tests)
