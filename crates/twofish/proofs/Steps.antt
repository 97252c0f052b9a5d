-- A round from the results of its calls, and two rounds a turn, for one block or three, are those of the definition: one step of it after another.
use mathlib.Core.Path.{◌≡◌, refl, sym, ap, ap₂, ◌∙◌}
use Prim.Native.Nat.{ℕ, suc, ◌+◌, ◌-◌, ◌*◌, ◌%◌, ◌^◌, ◌<◌}
use native.Mathlib.Omega.{arith}
use Rattle.words.specs.Rotation.{rotate_left, rotate_right}
use Rattle.twofish.specs.Field.{◌⊕◌}
use Rattle.twofish.specs.Cipher.{F0, F1, round, unround, rounds}
use Rattle.twofish.specs.declared.Block.{Block}
use Rattle.twofish.specs.declared.Three.{Three}
use Rattle.twofish.specs.Beside.{threefold}
use Rattle.twofish.proofs.Rounds.{blocks}

module _ (g k : ℕ → ℕ) where
  -- the two words of F, of words a and b
  module _ (r a b : ℕ) {y t z : ℕ} (ey : y ≡ g a) (et : t ≡ rotate_left 32 8 b) (ez : z ≡ g t) where
    pub F0_made : {f : ℕ} → f ≡ (y + z + k (2 * r + 8)) % 2 ^ 32 → f ≡ F0 g k r a b
    unfolding F0
    F0_made e = e ∙ ap₂ (λ (u v : ℕ). (u + v + k (2 * r + 8)) % 2 ^ 32) ey (ez ∙ ap g et)

    pub F1_made : {f : ℕ} → f ≡ (y + 2 * z + k (2 * r + 9)) % 2 ^ 32 → f ≡ F1 g k r a b
    unfolding F1
    F1_made e = e ∙ ap₂ (λ (u v : ℕ). (u + 2 * v + k (2 * r + 9)) % 2 ^ 32) ey (ez ∙ ap g et)

  -- a round each way with them
  module _ (r a b c d : ℕ) {f f' p q : ℕ} (e : f ≡ F0 g k r a b) (e' : f' ≡ F1 g k r a b) where
    pub round_made : p ≡ rotate_right 32 1 (c ⊕ f) → q ≡ rotate_left 32 1 d
        → record { a = p; b = q ⊕ f'; c = a; d = b } ≡ round g k r (record { a = a; b = b; c = c; d = d })
    unfolding round
    round_made ep eq =
        blocks (ep ∙ ap (λ (u : ℕ). rotate_right 32 1 (c ⊕ u)) e) (ap₂ ◌⊕◌ eq e') refl refl

    pub unround_made : p ≡ rotate_left 32 1 c → q ≡ rotate_right 32 1 (d ⊕ f')
        → record { a = a; b = b; c = p ⊕ f; d = q } ≡ unround g k r (record { a = c; b = d; c = a; d = b })
    unfolding unround
    unround_made ep eq =
        blocks refl refl (ap₂ ◌⊕◌ ep e) (eq ∙ ap (λ (u : ℕ). rotate_right 32 1 (d ⊕ u)) e')

  -- two rounds more
  pub two_more : (i : ℕ) (s : Block) {x y z : Block} → x ≡ rounds g k (2 * i) s → y ≡ round g k (2 * i) x
      → z ≡ round g k (2 * i + 1) y → z ≡ rounds g k (2 * (i + 1)) s
  unfolding rounds
  two_more i s ex ey ez =
      let p : suc (suc (2 * i)) ≡ 2 * (i + 1) = omega arith in
      let q : 2 * i + 1 ≡ suc (2 * i) = omega arith in
      ez ∙ ap₂ (round g k) q (ey ∙ ap (round g k (2 * i)) ex) ∙ ap (λ (n : ℕ). rounds g k n s) p

-- n rounds back by U n, of one block or of some side by side: two less a turn, until none is left
module _ {S : Type 0} (U : ℕ → S → S) where
  pub two_less : (u : ℕ → S → S) → ((n : ℕ) (x : S) → U (suc n) x ≡ U n (u n x)) → (i : ℕ) (x : S) {y z s : S} → 0 < i
      → y ≡ u (2 * (i - 1) + 1) x → z ≡ u (2 * (i - 1)) y → U (2 * i) x ≡ s → U (2 * (i - 1)) z ≡ s
  two_less u one i x h ey ez ex =
      let n = 2 * (i - 1) in
      let p : n + 1 ≡ suc n = omega arith in
      let q : suc (suc n) ≡ 2 * i = omega arith in
      ap (U n) (ez ∙ ap (u n) (ey ∙ ap (λ (m : ℕ). u m x) p))
      ∙ sym (one (suc n) x ∙ one n (u (suc n) x))
      ∙ ap (λ (m : ℕ). U m x) q
      ∙ ex

  pub none_left : ((x : S) → U 0 x ≡ x) → (i : ℕ) (x : S) {s : S} → 0 ≡ 2 * i → U (2 * i) x ≡ s → x ≡ s
  none_left none i x z ex = sym (none x) ∙ ap (λ (n : ℕ). U n x) z ∙ ex

-- three blocks by the results of three calls
pub threefold_made : (F : Block → Block) (t : Three) {x y z : Block} → x ≡ F t.x → y ≡ F t.y → z ≡ F t.z
    → record { x = x; y = y; z = z } ≡ threefold F t
threefold_made F t p q r = λ i. record { x = p i; y = q i; z = r i }
