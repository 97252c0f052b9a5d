-- The decision gives the smallest number that applies: by its tests. That number is the length exactly for texts, and else less: by what may apply.
use Prim.Native.Nat.{ℕ, ◌-◌, ◌<◌, ◌≤◌}
use mathlib.Core.Path.{◌≡◌, refl, sym, subst, ap, ◌∙◌}
use mathlib.Core.Logic.{◌↔◌}
use mathlib.Core.Bool.{Bool, true, false, cond}
use mathlib.Core.List.{List, [], ◌∷◌, ◌++◌}
use native.Mathlib.Omega.{arith}
use native.Mathlib.Decide.{dec_lt}
use lib.Dec.{ltb}
use lib.ListN.{length, take, length-append}
use lib.Seq.{take-length}
use borrow.Author.Tests.{ltb-true, ltb-false, lt-ltb, le-ltb}
use Rattle.text.specs.Grammar.{WellFormedUtf8, IsText}
use Rattle.text.specs.GoesWrong.{LongestStart, OnlyZero, Applies, by_start, by_mark, by_zero, Smallest, GoesWrongAt}
use Rattle.text.specs.Decision.{ends_whole, utf8_of, marked_of, ends_in_zero, formed_start, before_final_zero, right_of, goes_wrong_of}
use Rattle.std.specs.Prelude.{None, Some}
use Rattle.text.proofs.Grammar.{grammar}
use Rattle.text.proofs.Greatest.{greatest_within, greatest_holds, greatest_most}
use Rattle.text.proofs.Ends.{marked_in, zero_in, unmarked, unended}

-- ---- the decision
module _ (s : List ℕ) where
  abbrev starts : ℕ → Bool
  starts n = utf8_of (take n s)

  none_yet : starts 0 ≡ true
  unfolding ends_whole
  none_yet = refl

  longest : LongestStart s (formed_start s)
  longest =
      record {
        within = greatest_within starts (length s);
        formed = (grammar (take (formed_start s) s)).0 (greatest_holds starts none_yet (length s));
        longest = λ m l w. greatest_most starts (length s) m l ((grammar (take m s)).1 w);
      }

  -- the longest start's number, however it is written
  as_long : {n : ℕ} → n ≡ formed_start s → Applies s n
  as_long e = subst (Applies s) (sym e) (by_start longest)

  module _ (unmark : (t : List ℕ) → s ≡ 0xef ∷ 0xbb ∷ 0xbf ∷ t → ⊥) where
    -- no greater than the longest start's, and than a final 00's where only that offends
    least : (n : ℕ) → n ≤ formed_start s → (OnlyZero s → n ≤ length s - 1) → (m : ℕ) → Applies s m → n ≤ m
    least n l z m (by_start k) = let i = k.longest (formed_start s) longest.within longest.formed in omega arith
    least n l z m (by_mark t e) = absurd (unmark t e)
    least n l z m (by_zero o) = z o

    zeroed : ends_in_zero s ≡ true → length s - 1 ≤ formed_start s → Smallest s (length s - 1)
    zeroed z l = record { applies = split (dec_lt (formed_start s) (length s)); smallest = least (length s - 1) l (λ o. omega arith) }
      where
        split : Dec (formed_start s < length s) → Applies s (length s - 1)
        split (yes k) = as_long (omega arith)
        split (no k) =
            let e : formed_start s ≡ length s = omega (arith, longest.within) in
            let u = (grammar s).0 (ap utf8_of (sym (take-length s)) ∙ ap starts (sym e) ∙ greatest_holds starts none_yet (length s)) in
            by_zero (record { utf8 = u; no_mark = unmark; final = zero_in s z })

    unzeroed : ends_in_zero s ≡ false → length s ≤ formed_start s → Smallest s (length s)
    unzeroed z l = record {
      applies = as_long (omega (arith, longest.within));
      smallest = least (length s) l (λ o. absurd (unended s z o.final.0 o.final.1));
    }

    cut : formed_start s < length s → Smallest s (formed_start s)
    cut l = record { applies = by_start longest; smallest = least (formed_start s) (omega arith) (λ o. omega arith) }

  by_tests : (m z b : Bool) → marked_of s ≡ m → ends_in_zero s ≡ z → ltb (formed_start s) (cond z (length s - 1) (length s)) ≡ b
      → Smallest s (cond m 0 (cond b (formed_start s) (cond z (length s - 1) (length s))))
  by_tests true z b e f g = let t = marked_in s e in record { applies = by_mark t.0 t.1; smallest = λ m a. omega arith }
  by_tests false true true e f g = cut (unmarked s e) (omega (arith, ltb-true (formed_start s) (length s - 1) g))
  by_tests false false true e f g = cut (unmarked s e) (ltb-true (formed_start s) (length s) g)
  by_tests false true false e f g = zeroed (unmarked s e) f (ltb-false (formed_start s) (length s - 1) g)
  by_tests false false false e f g = unzeroed (unmarked s e) f (ltb-false (formed_start s) (length s) g)

  right_is : Smallest s (right_of s)
  right_is = by_tests (marked_of s) (ends_in_zero s) (ltb (formed_start s) (before_final_zero s)) refl refl refl

-- ---- the smallest number that applies
module _ (s : List ℕ) (n : ℕ) (w : Smallest s n) where
  within_length : n ≤ length s
  within_length = by n w.applies
    where
      by : (n : ℕ) → Applies s n → n ≤ length s
      by n (by_start k) = k.within
      by n (by_mark t e) = omega arith
      by n (by_zero o) = omega arith

  pub text_right : IsText s → n ≡ length s
  text_right t = let k = by n w.applies in omega (arith, within_length)
    where
      by : (n : ℕ) → Applies s n → length s ≤ n
      by n (by_start k) = k.longest (length s) (omega arith) (subst WellFormedUtf8 (sym (take-length s)) t.utf8)
      by n (by_mark u e) = absurd (t.no_mark u e)
      by n (by_zero o) = absurd (t.no_zero o.final.0 o.final.1)

  pub right_text : length s ≤ n → IsText s
  right_text l = record { utf8 = utf8; no_mark = no_mark; no_zero = λ t e. least (length s - 1) (by_zero (record { utf8 = utf8; no_mark = no_mark; final = (t, e) })) (some t e) }
    where
      least : (m : ℕ) → Applies s m → m < length s → ⊥
      least m a k = let i = w.smallest m a in omega arith

      whole : formed_start s ≡ length s
      whole = let i = w.smallest (formed_start s) (by_start (longest s)) in omega (arith, (longest s).within)

      utf8 : WellFormedUtf8 s
      utf8 = subst WellFormedUtf8 (ap (λ (m : ℕ). take m s) whole ∙ take-length s) (longest s).formed

      no_mark : (t : List ℕ) → s ≡ 0xef ∷ 0xbb ∷ 0xbf ∷ t → ⊥
      no_mark t e = least 0 (by_mark t e) (omega (arith, ap length e))

      some : (t : List ℕ) → s ≡ t ++ (0x00 ∷ []) → length s - 1 < length s
      some t e = omega (arith, ap length e, length-append t (0x00 ∷ []))

-- there is one
pub one_number : (s : List ℕ) (m n : ℕ) → Smallest s m → Smallest s n → m ≡ n
one_number s m n a b = let x = a.smallest n b.applies in let y = b.smallest m a.applies in omega arith

-- ---- the answer
module _ (s : List ℕ) where
  -- by the test that gives it
  record Tested (n : ℕ) : Type 0 where
    less : n < length s
    is : right_of s ≡ n

  tested : (n : ℕ) → goes_wrong_of s ≡ Some n → Tested n
  unfolding goes_wrong_of
  tested n h = by (ltb (right_of s) (length s)) refl h
    where
      by : (b : Bool) → ltb (right_of s) (length s) ≡ b → cond b (Some (right_of s)) None ≡ Some n → Tested n
      by true e h = let i : right_of s ≡ n = cc in let l = ltb-true (right_of s) (length s) e in record { less = omega arith; is = i }
      by false e h = absurd (let z : ◌≡◌ {A = ℕ} 0 1 = cc in omega arith)

  pub number_less : (n : ℕ) → goes_wrong_of s ≡ Some n → n < length s
  number_less n h = (tested n h).less

  pub nowhere_exactly : (goes_wrong_of s ≡ None) ↔ IsText s
  unfolding goes_wrong_of
  nowhere_exactly = (
    λ h. right_text s (right_of s) (right_is s) (by (ltb (right_of s) (length s)) refl h),
    λ t. let e = text_right s (right_of s) (right_is s) t in rw (le-ltb (right_of s) (length s) (omega arith)),
  )
    where
      by : (b : Bool) → ltb (right_of s) (length s) ≡ b → cond b (Some (right_of s)) None ≡ None → length s ≤ right_of s
      by true e h = absurd (let z : ◌≡◌ {A = ℕ} 0 1 = cc in omega arith)
      by false e h = ltb-false (right_of s) (length s) e

  pub number_exactly : (n : ℕ) → (goes_wrong_of s ≡ Some n) ↔ GoesWrongAt s n
  unfolding goes_wrong_of
  number_exactly n = (
    λ h.
        let t = tested n h in
        record {
          no_text = λ x. let e = text_right s (right_of s) (right_is s) x in omega (arith, t.less, t.is);
          number = subst (Smallest s) t.is (right_is s);
        },
    λ w.
        let e = one_number s (right_of s) n (right_is s) w.number in
        rw (lt-ltb (right_of s) (length s) (below (λ l. w.no_text (right_text s (right_of s) (right_is s) l))), e),
  )
    where
      below : (length s ≤ right_of s → ⊥) → right_of s < length s
      below k = omega arith
