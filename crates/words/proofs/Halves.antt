-- Sixteen bytes are the same exactly where both halves are, read as numbers: bytes are told by their number.
use Prim.Native.Nat.{ℕ}
use mathlib.Core.Path.{◌≡◌, refl, sym, ap, ap₂, ◌∙◌}
use mathlib.Core.Bool.{Bool, true, false, ◌&&◌}
use mathlib.Core.List.{List, ◌++◌}
use native.Mathlib.Omega.{arith}
use lib.Dec.{eqb}
use lib.ListN.{length, take, drop, length-take, length-drop}
use lib.Seq.{take_all}
use borrow.Author.Tests.{eq-eqb, ne_eqb, eqb-true, eqb-false}
use Rattle.std.proofs.lemmas.List.{take-append-drop}
use Rattle.words.specs.Numbers.{number_low, Bytes}
use Rattle.words.specs.Slices.{same}
use Rattle.words.proofs.ByteLaws.{bytes_take, bytes_drop}
use Rattle.words.proofs.NumberLaws.{number_inj}
use Rattle.words.proofs.SliceLaws.{same_refl, same_false}

abbrev low : List ℕ → ℕ
low s = number_low (take 8 s)

abbrev high : List ℕ → ℕ
high s = number_low (take 8 (drop 8 s))

module _ (a b : List ℕ) (p : Bytes a) (q : Bytes b) (k : length a ≡ 16) (l : length b ≡ 16) where
  both_same : low a ≡ low b → high a ≡ high b → a ≡ b
  both_same e f =
      let m : length (take 8 a) ≡ length (take 8 b) = simp length-take (omega arith) in
      let n : length (take 8 (drop 8 a)) ≡ length (take 8 (drop 8 b)) = simp (length-take, length-drop) (omega arith) in
      let g = number_inj (bytes_take 8 p) (bytes_take 8 q) m e in
      let h = number_inj (bytes_take 8 (bytes_drop 8 p)) (bytes_take 8 (bytes_drop 8 q)) n f in
      let x = take_all 8 (drop 8 a) (simp length-drop (omega arith)) in
      let y = take_all 8 (drop 8 b) (simp length-drop (omega arith)) in
      sym (take-append-drop 8 a) ∙ ap₂ ◌++◌ g (sym x ∙ (h ∙ y)) ∙ take-append-drop 8 b

  pub same_halves : (eqb (low a) (low b) && eqb (high a) (high b)) ≡ same a b
  same_halves = go (eqb (low a) (low b)) (eqb (high a) (high b)) refl refl
    where
      go : (x y : Bool) → eqb (low a) (low b) ≡ x → eqb (high a) (high b) ≡ y → (x && y) ≡ same a b
      go true true e f = sym (ap (same a) (sym (both_same (eqb-true _ _ e) (eqb-true _ _ f))) ∙ same_refl a)
      go true false e f = same_false a b (λ z. eqb-false (high a) (high b) f (ap high z))
      go false y e f = same_false a b (λ z. eqb-false (low a) (low b) e (ap low z))

  -- after the first comparison
  pub same_then : low a ≡ low b → eqb (high a) (high b) ≡ same a b
  same_then e = ap (λ (t : Bool). t && eqb (high a) (high b)) (sym (eq-eqb (low a) (low b) e)) ∙ same_halves

  pub same_else : (low a ≡ low b → ⊥) → eqb (low a) (low b) ≡ same a b
  same_else n = ne_eqb (low a) (low b) n ∙ (ap (λ (t : Bool). t && eqb (high a) (high b)) (sym (ne_eqb (low a) (low b) n)) ∙ same_halves)
