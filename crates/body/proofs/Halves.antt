-- Two halves say 16 bytes: a number of 8 bytes has these bytes alone, and data that pass the test of the halves are the UUID.
use Prim.Native.Nat.{ℕ}
use mathlib.Core.Path.{◌≡◌, refl, sym, ap₂, ◌∙◌}
use mathlib.Core.Bool.{true, false, true≢false}
use mathlib.Core.List.{List, ◌++◌}
use native.Mathlib.Omega.{arith}
use lib.Dec.{eqb}
use lib.ListN.{length, take, drop, length-take, length-drop, take-append-drop}
use lib.Seq.{take_all}
use borrow.Author.Tests.{eqb-true, eq-eqb}
use Rattle.words.specs.Numbers.{number_low, Bytes, Sized}
use Rattle.words.proofs.EachLaws.{both}
use Rattle.words.proofs.ByteLaws.{bytes_take, bytes_drop}
use Rattle.words.proofs.NumberLaws.{number_inj}
use Rattle.body.specs.Find.{is_uuid}

halves_inj : (d u : List ℕ) → Bytes d → Sized 16 u → length d ≡ 16 → number_low (take 8 d) ≡ number_low (take 8 u) → number_low (take 8 (drop 8 d)) ≡ number_low (take 8 (drop 8 u)) → d ≡ u
halves_inj d u x y l e f =
    let z = y.long in
    let i : take 8 d ≡ take 8 u = number_inj (bytes_take 8 x) (bytes_take 8 y.bytes) (simp length-take (omega arith)) e in
    let j : take 8 (drop 8 d) ≡ take 8 (drop 8 u) = number_inj (bytes_take 8 (bytes_drop 8 x)) (bytes_take 8 (bytes_drop 8 y.bytes)) (simp (length-take, length-drop) (omega arith)) f in
    let a : take 8 (drop 8 d) ≡ drop 8 d = take_all 8 (drop 8 d) (omega (arith, length-drop 8 d)) in
    let b : take 8 (drop 8 u) ≡ drop 8 u = take_all 8 (drop 8 u) (omega (arith, length-drop 8 u)) in
    sym (take-append-drop 8 d) ∙ ap₂ ◌++◌ i (sym a ∙ j ∙ b) ∙ take-append-drop 8 u

abbrev pub low : List ℕ → ℕ
low uuid = number_low (take 8 uuid)

abbrev pub high : List ℕ → ℕ
high uuid = number_low (take 8 (drop 8 uuid))

module _ (uuid : List ℕ) (y : Sized 16 uuid) where
  pub has_bytes : (d : List ℕ) → Bytes d → is_uuid d (low uuid) (high uuid) ≡ true → d ≡ uuid
  unfolding is_uuid
  has_bytes d x h =
      let a = both (eqb (length d) 16) _ h in
      let b = both (eqb (number_low (take 8 d)) (low uuid)) _ a.1 in
      halves_inj d uuid x y (eqb-true _ _ a.0) (eqb-true _ _ b.0) (eqb-true _ _ b.1)

  pub has_itself : (d : List ℕ) → d ≡ uuid → is_uuid d (low uuid) (high uuid) ≡ true
  unfolding is_uuid
  has_itself d e = rw (e, eq-eqb (length uuid) 16 y.long, eq-eqb (low uuid) (low uuid) refl, eq-eqb (high uuid) (high uuid) refl)

  pub has_not : (d : List ℕ) → is_uuid d (low uuid) (high uuid) ≡ false → d ≡ uuid → ⊥
  has_not d h e = true≢false (sym (has_itself d e) ∙ h)
