-- Twofish on a block of four words (the paper's 4 and 4.1), over its function g and its subkeys k: 16 rounds between two whitenings.
use Rattle.std.specs.Prelude.{ℕ, zero, suc, ◌+◌, ◌*◌, ◌%◌, ◌^◌}
use Rattle.words.specs.Rotation.{rotate_left, rotate_right}
use Rattle.twofish.specs.Field.{◌⊕◌}
use Rattle.twofish.specs.declared.Block.{Block}

-- the words of a block, each with a subkey, from subkey i on
unfoldable pub whiten : (ℕ → ℕ) → ℕ → Block → Block
whiten k i s = record { a = s.a ⊕ k i; b = s.b ⊕ k (i + 1); c = s.c ⊕ k (i + 2); d = s.d ⊕ k (i + 3) }

-- the halves of a block, which the last round leaves as they were
abbrev pub swap : Block → Block
swap s = record { a = s.c; b = s.d; c = s.a; d = s.b }

module _ (g k : ℕ → ℕ) where
  -- the two words of the function F in round r (4.1)
  unfoldable pub F0 : ℕ → ℕ → ℕ → ℕ
  F0 r a b = (g a + g (rotate_left 32 8 b) + k (2 * r + 8)) % 2 ^ 32

  unfoldable pub F1 : ℕ → ℕ → ℕ → ℕ
  F1 r a b = (g a + 2 * g (rotate_left 32 8 b) + k (2 * r + 9)) % 2 ^ 32

  -- round r: the third word turns after the exclusive or, the fourth before it and the other way
  unfoldable pub round : ℕ → Block → Block
  round r s =
      record {
        a = rotate_right 32 1 (s.c ⊕ F0 r s.a s.b);
        b = rotate_left 32 1 s.d ⊕ F1 r s.a s.b;
        c = s.a;
        d = s.b;
      }

  -- and back
  unfoldable pub unround : ℕ → Block → Block
  unround r s =
      record {
        a = s.c;
        b = s.d;
        c = rotate_left 32 1 s.a ⊕ F0 r s.c s.d;
        d = rotate_right 32 1 (s.b ⊕ F1 r s.c s.d);
      }

  -- rounds 0 to n - 1, and back
  unfoldable pub rounds : ℕ → Block → Block
  rounds zero s = s
  rounds (suc n) s = round n (rounds n s)

  unfoldable pub unrounds : ℕ → Block → Block
  unrounds zero s = s
  unrounds (suc n) s = unrounds n (unround n s)

  unfoldable pub encrypt : Block → Block
  encrypt s = whiten k 4 (swap (rounds 16 (whiten k 0 s)))

  unfoldable pub decrypt : Block → Block
  decrypt s = whiten k 0 (unrounds 16 (swap (whiten k 4 s)))
