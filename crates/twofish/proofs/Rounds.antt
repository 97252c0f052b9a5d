-- Decryption undoes encryption on four words, and encryption decryption, whatever g and the subkeys are: each round undoes itself, since its
-- exclusive ors and its rotations do, and so do the rounds by recursion on their number.
use mathlib.Core.Path.{◌≡◌, refl, ap, ◌∙◌}
use Prim.Native.Nat.{ℕ, zero, suc, ◌+◌, ◌^◌, ◌<◌}
use native.Mathlib.Omega.{arith}
use lib.Bits.{xor_lt}
use Rattle.words.specs.Rotation.{rotate_left, rotate_right}
use Rattle.words.proofs.RotationLaws.{left_right, right_left, left_fits, right_fits}
use Rattle.words.proofs.XorLaws.{xor_undo}
use Rattle.twofish.specs.Field.{◌⊕◌}
use Rattle.twofish.specs.Cipher.{whiten, swap, F0, F1, round, unround, rounds, unrounds, encrypt, decrypt}
use Rattle.twofish.specs.declared.Block.{Block}

-- a word turned by one place
left_back : (x : ℕ) → x < 2 ^ 32 → rotate_left 32 1 (rotate_right 32 1 x) ≡ x
left_back x = left_right 32 1 x (omega arith)

right_back : (x : ℕ) → x < 2 ^ 32 → rotate_right 32 1 (rotate_left 32 1 x) ≡ x
right_back x = right_left 32 1 x (omega arith)

left_word : (x : ℕ) → x < 2 ^ 32 → rotate_left 32 1 x < 2 ^ 32
left_word x = left_fits 32 1 x (omega arith)

right_word : (x : ℕ) → x < 2 ^ 32 → rotate_right 32 1 x < 2 ^ 32
right_word x = right_fits 32 1 x (omega arith)

-- four words of 32 bits
pub record Words (s : Block) : Type 0 where
  pub fa : s.a < 2 ^ 32
  pub fb : s.b < 2 ^ 32
  pub fc : s.c < 2 ^ 32
  pub fd : s.d < 2 ^ 32

pub blocks : {s t : Block} → s.a ≡ t.a → s.b ≡ t.b → s.c ≡ t.c → s.d ≡ t.d → s ≡ t
blocks p q r v = λ i. record { a = p i; b = q i; c = r i; d = v i }

whiten_undo : (k : ℕ → ℕ) (i : ℕ) (s : Block) → whiten k i (whiten k i s) ≡ s
unfolding whiten
whiten_undo k i s =
    blocks (xor_undo s.a (k i)) (xor_undo s.b (k (i + 1))) (xor_undo s.c (k (i + 2))) (xor_undo s.d (k (i + 3)))

whiten_words : (k : ℕ → ℕ) → ((i : ℕ) → k i < 2 ^ 32) → (i : ℕ) {s : Block} → Words s → Words (whiten k i s)
unfolding whiten
whiten_words k hk i {s} w =
    record {
      fa = xor_lt 32 s.a (k i) w.fa (hk i);
      fb = xor_lt 32 s.b (k (i + 1)) w.fb (hk (i + 1));
      fc = xor_lt 32 s.c (k (i + 2)) w.fc (hk (i + 2));
      fd = xor_lt 32 s.d (k (i + 3)) w.fd (hk (i + 3));
    }

swap_words : {s : Block} → Words s → Words (swap s)
swap_words w = record { fa = w.fc; fb = w.fd; fc = w.fa; fd = w.fb }

module _ (g k : ℕ → ℕ) where
  F0_word : (r a b : ℕ) → F0 g k r a b < 2 ^ 32
  unfolding F0
  F0_word r a b = omega arith

  F1_word : (r a b : ℕ) → F1 g k r a b < 2 ^ 32
  unfolding F1
  F1_word r a b = omega arith

  round_words : (r : ℕ) {s : Block} → Words s → Words (round g k r s)
  unfolding round
  round_words r {s} w =
      let f = F0 g k r s.a s.b in
      let f' = F1 g k r s.a s.b in
      record {
        fa = right_word (s.c ⊕ f) (xor_lt 32 s.c f w.fc (F0_word r s.a s.b));
        fb = xor_lt 32 (rotate_left 32 1 s.d) f' (left_word s.d w.fd) (F1_word r s.a s.b);
        fc = w.fa;
        fd = w.fb;
      }

  unround_words : (r : ℕ) {s : Block} → Words s → Words (unround g k r s)
  unfolding unround
  unround_words r {s} w =
      let f = F0 g k r s.c s.d in
      let f' = F1 g k r s.c s.d in
      record {
        fa = w.fc;
        fb = w.fd;
        fc = xor_lt 32 (rotate_left 32 1 s.a) f (left_word s.a w.fa) (F0_word r s.c s.d);
        fd = right_word (s.b ⊕ f') (xor_lt 32 s.b f' w.fb (F1_word r s.c s.d));
      }

  unround_round : (r : ℕ) {s : Block} → Words s → unround g k r (round g k r s) ≡ s
  unfolding round unround
  unround_round r {s} w =
      let f = F0 g k r s.a s.b in
      let f' = F1 g k r s.a s.b in
      blocks refl refl
      (ap (λ (x : ℕ). x ⊕ f) (left_back (s.c ⊕ f) (xor_lt 32 s.c f w.fc (F0_word r s.a s.b))) ∙ xor_undo s.c f)
      (ap (rotate_right 32 1) (xor_undo (rotate_left 32 1 s.d) f') ∙ right_back s.d w.fd)

  round_unround : (r : ℕ) {s : Block} → Words s → round g k r (unround g k r s) ≡ s
  unfolding round unround
  round_unround r {s} w =
      let f = F0 g k r s.c s.d in
      let f' = F1 g k r s.c s.d in
      blocks
      (ap (rotate_right 32 1) (xor_undo (rotate_left 32 1 s.a) f) ∙ right_back s.a w.fa)
      (ap (λ (x : ℕ). x ⊕ f') (left_back (s.b ⊕ f') (xor_lt 32 s.b f' w.fb (F1_word r s.c s.d))) ∙ xor_undo s.b f')
      refl refl

  rounds_words : (n : ℕ) {s : Block} → Words s → Words (rounds g k n s)
  unfolding rounds
  rounds_words zero w = w
  rounds_words (suc n) w = round_words n (rounds_words n w)

  unrounds_words : (n : ℕ) {s : Block} → Words s → Words (unrounds g k n s)
  unfolding unrounds
  unrounds_words zero w = w
  unrounds_words (suc n) w = unrounds_words n (unround_words n w)

  unrounds_rounds : (n : ℕ) {s : Block} → Words s → unrounds g k n (rounds g k n s) ≡ s
  unfolding rounds unrounds
  unrounds_rounds zero w = refl
  unrounds_rounds (suc n) w = ap (unrounds g k n) (unround_round n (rounds_words n w)) ∙ unrounds_rounds n w

  rounds_unrounds : (n : ℕ) {s : Block} → Words s → rounds g k n (unrounds g k n s) ≡ s
  unfolding rounds unrounds
  rounds_unrounds zero w = refl
  rounds_unrounds (suc n) w = ap (round g k n) (rounds_unrounds n (unround_words n w)) ∙ round_unround n w

  module _ (hk : (i : ℕ) → k i < 2 ^ 32) where
    pub decrypt_encrypt : (s : Block) → Words s → decrypt g k (encrypt g k s) ≡ s
    unfolding encrypt decrypt
    decrypt_encrypt s w =
        ap (λ (x : Block). whiten k 0 (unrounds g k 16 (swap x))) (whiten_undo k 4 (swap (rounds g k 16 (whiten k 0 s))))
        ∙ ap (whiten k 0) (unrounds_rounds 16 (whiten_words k hk 0 w))
        ∙ whiten_undo k 0 s

    pub encrypt_decrypt : (s : Block) → Words s → encrypt g k (decrypt g k s) ≡ s
    unfolding encrypt decrypt
    encrypt_decrypt s w =
        ap (λ (x : Block). whiten k 4 (swap (rounds g k 16 x))) (whiten_undo k 0 (unrounds g k 16 (swap (whiten k 4 s))))
        ∙ ap (λ (x : Block). whiten k 4 (swap x)) (rounds_unrounds 16 (swap_words (whiten_words k hk 4 w)))
        ∙ whiten_undo k 4 s

    pub encrypt_words_lem : (s : Block) → Words s → Words (encrypt g k s)
    unfolding encrypt
    encrypt_words_lem s w = whiten_words k hk 4 (swap_words (rounds_words 16 (whiten_words k hk 0 w)))

    pub decrypt_words_lem : (s : Block) → Words s → Words (decrypt g k s)
    unfolding decrypt
    decrypt_words_lem s w = whiten_words k hk 0 (unrounds_words 16 (swap_words (whiten_words k hk 4 w)))
