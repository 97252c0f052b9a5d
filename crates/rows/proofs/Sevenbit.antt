-- Bytes 01 to 7f alone are a text, and hold no zero byte: by recursion on the bytes.
use Prim.Native.Nat.{ℕ, zero, suc, ◌<◌}
use mathlib.Core.Path.{◌≡◌, refl, sym, ap, ◌∙◌}
use mathlib.Core.Bool.{Bool, true, false, cond, ◌&&◌}
use mathlib.Core.List.{List, [], ◌∷◌, ◌++◌}
use native.Mathlib.Omega.{arith}
use lib.Dec.{eqb, ltb}
use lib.ListN.{length, get_or, length-append}
use lib.Seq.{get_or_at}
use borrow.Author.Tests.{ne_eqb, ltb-true}
use Rattle.std.specs.Prelude.{None}
use Rattle.std.proofs.lemmas.List.Folds.{list_all-append}
use Rattle.words.specs.Members.{among}
use Rattle.words.proofs.EachLaws.{both}
use Rattle.text.specs.Grammar.{one, WellFormedUtf8, end, char, IsText}
use Rattle.text.specs.Decision.{goes_wrong_of}
use Rattle.text.proofs.GoesWrong.{nowhere_exactly}
use Rattle.fields.specs.Value.{record_shape, shaped_of, value_of}
use Rattle.fields.specs.declared.value.Shape.{Shape}
use Rattle.fields.specs.declared.value.Value.{Value}
use Rattle.rows.specs.Fit.{is_bad_text}
use Rattle.rows.specs.Plain.{plain_byte, is_plain}

-- with one byte more
pub plain_more : (ys : List ℕ) (a b : Bool) (x : ℕ) → a ≡ is_plain ys → b ≡ ((a && ltb 0 x) && ltb x 0x80) → b ≡ is_plain (ys ++ (x ∷ []))
plain_more ys a b x h e = e ∙ by a (ltb 0 x) (ltb x 0x80) ∙ ap (λ (t : Bool). t && (plain_byte x && true)) h ∙ sym (list_all-append plain_byte ys (x ∷ []))
  where
    by : (a p q : Bool) → ((a && p) && q) ≡ (a && ((p && q) && true))
    by false p q = refl
    by true false q = refl
    by true true true = refl
    by true true false = refl

-- what it says
record Between (b : ℕ) : Type 0 where
  above : 0 < b
  below : b < 128

between : (b : ℕ) → plain_byte b ≡ true → Between b
between b h =
    let x = both (ltb 0 b) (ltb b 0x80) h in
    record { above = ltb-true 0 b x.0; below = ltb-true b 0x80 x.1 }

plain_utf8 : (d : List ℕ) → is_plain d ≡ true → WellFormedUtf8 d
plain_utf8 [] h = end
plain_utf8 (b ∷ d) h =
    let x = both (plain_byte b) (is_plain d) h in
    let y = between b x.0 in
    char (one {b = b} (omega (arith, y.below))) (plain_utf8 d x.1)

plain_at : (d : List ℕ) → is_plain d ≡ true → (i : ℕ) → i < length d → Between (get_or d i 0)
plain_at [] h i l = absurd (omega arith)
plain_at (b ∷ d) h zero l = between b (both (plain_byte b) (is_plain d) h).0
plain_at (b ∷ d) h (suc i) l = plain_at d (both (plain_byte b) (is_plain d) h).1 i (omega arith)

pub plain_zero : (d : List ℕ) → is_plain d ≡ true → among 0 d ≡ false
plain_zero [] h = refl
plain_zero (b ∷ d) h =
    let x = both (plain_byte b) (is_plain d) h in
    let y = between b x.0 in
    rw (ne_eqb 0 b (λ e. omega (arith, y.above))) (plain_zero d x.1)

plain_text : (d : List ℕ) → is_plain d ≡ true → IsText d
plain_text d h = record { utf8 = plain_utf8 d h; no_mark = no_mark; no_zero = no_zero }
  where
    no_mark : (t : List ℕ) → d ≡ 0xef ∷ 0xbb ∷ 0xbf ∷ t → ⊥
    no_mark t e =
        let y = plain_at d h 0 (omega (arith, ap length e)) in
        omega (arith, y.below, ap (λ (l : List ℕ). get_or l 0 0) e)

    no_zero : (t : List ℕ) → d ≡ t ++ (0x00 ∷ []) → ⊥
    no_zero t e =
        let y = plain_at d h (length t) (omega (arith, ap length e, length-append t (0x00 ∷ []))) in
        omega (arith, y.above, ap (λ (l : List ℕ). get_or l (length t) 0) e, get_or_at t 0x00 [] 0 (length t) refl)

sized_fine : (b : Bool) (v : Value) → is_bad_text v ≡ false → is_bad_text (cond b v Value.Misshapen) ≡ false
sized_fine true v h = h
sized_fine false v h = refl

shaped_fine : (s : Shape) (d : List ℕ) → goes_wrong_of d ≡ None → is_bad_text (shaped_of s d) ≡ false
shaped_fine Shape.Uuid d h = sized_fine (eqb (length d) 16) _ refl
shaped_fine Shape.Time d h = sized_fine (eqb (length d) 4) _ refl
shaped_fine Shape.Word d h = sized_fine (eqb (length d) 4) _ refl
shaped_fine Shape.Half d h = sized_fine (eqb (length d) 2) _ refl
shaped_fine Shape.Flag d h = sized_fine (eqb (length d) 1) _ refl
shaped_fine Shape.Text d h = rw h
shaped_fine Shape.Opaque d h = refl

pub plain_fine : (k : ℕ) (d : List ℕ) → is_plain d ≡ true → is_bad_text (value_of true k d) ≡ false
unfolding value_of
plain_fine k d h = by (eqb k 0xff) (eqb (length d) 0)
  where
    by : (a b : Bool) → is_bad_text (cond a Value.End (cond b Value.Empty (shaped_of (record_shape k) d))) ≡ false
    by true b = refl
    by false true = refl
    by false false = shaped_fine (record_shape k) d ((nowhere_exactly d).1 (plain_text d h))
