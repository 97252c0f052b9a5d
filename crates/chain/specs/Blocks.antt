-- How the code applies a mode: on blocks of four words, in lent memory.
use Rattle.std.specs.Prelude.{◌≡◌, ℕ, ◌*◌, ◌/◌, List, ◌++◌, length, take, drop, bit_xor}
use Rattle.words.specs.Xor.{xored}
use Rattle.twofish.specs.Twofish.{block_of, block_bytes}
use Rattle.twofish.specs.declared.Block.{Block}
use Rattle.twofish.specs.declared.Three.{Three}
use Rattle.chain.specs.Modes.{encrypted}
use Rattle.chain.specs.Decryption.{Decryption, decryption, step, run}
use Rattle.chain.specs.declared.Mode.{Mode}
use Rattle.chain.specs.declared.Mode.TheVariants.{Ecb, Cbc}

abbrev pub xor_block : Block → Block → Block
xor_block x y = record { a = bit_xor x.a y.a; b = bit_xor x.b y.b; c = bit_xor x.c y.c; d = bit_xor x.d y.d }

-- a block with the cipher block before it: a text before it is encrypted, a block after it is decrypted
unfoldable pub chained : Mode → Block → Block → Block
chained Ecb prev x = x
chained Cbc prev x = xor_block x prev

-- 16 bytes of lent memory before and after, and the cipher block r that is handed on to the next
pub record EncryptedBlock (mode : Mode) (E : Block → Block) (prev : Block) (before after : List ℕ) (r : Block) : Type 0 where
  pub block : r ≡ E (chained mode prev (block_of before))
  pub memory : after ≡ block_bytes r

pub record DecryptedBlock (mode : Mode) (D : Block → Block) (prev : Block) (before after : List ℕ) (r : Block) : Type 0 where
  pub block : r ≡ block_of before
  pub memory : after ≡ block_bytes (chained mode prev (D r))

-- three blocks of 48 bytes, and back
unfoldable pub three_of : List ℕ → Three
three_of l = record { x = block_of (take 16 l); y = block_of (take 16 (drop 16 l)); z = block_of (take 16 (drop 32 l)) }

unfoldable pub three_bytes : Three → List ℕ
three_bytes t = block_bytes t.x ++ (block_bytes t.y ++ block_bytes t.z)

-- the texts of three cipher blocks, each chained to the one before
unfoldable pub texts_of : Mode → (Block → Block) → Block → Three → Three
texts_of mode D prev t =
    record {
      x = chained mode prev (D t.x);
      y = chained mode t.x (D t.y);
      z = chained mode t.y (D t.z);
    }

-- 48 bytes of lent memory before and after, and the last cipher block
pub record DecryptedThree (mode : Mode) (D : Block → Block) (prev : Block) (before after : List ℕ) (r : Block) : Type 0 where
  pub block : r ≡ (three_of before).z
  pub memory : after ≡ three_bytes (texts_of mode D prev (three_of before))

-- a cipher on four words, as one on 16 bytes
unfoldable pub on_bytes : (Block → Block) → List ℕ → List ℕ
on_bytes F b = block_bytes (F (block_of b))

-- the modes (Modes) by their names, over a cipher on 16 bytes that has its key
unfoldable pub mode_e : Mode → (List ℕ → List ℕ) → List ℕ → List ℕ → List ℕ
mode_e Ecb f prev b = f b
mode_e Cbc f prev b = f (xored b prev)

unfoldable pub mode_d : Mode → (List ℕ → List ℕ) → List ℕ → List ℕ → List ℕ
mode_d Ecb f prev c = f c
mode_d Cbc f prev c = xored (f c) prev

-- all blocks of a memory, from the cipher block prev on
unfoldable pub encrypted_blocks : (List ℕ → List ℕ → List ℕ) → List ℕ → List ℕ → List ℕ
encrypted_blocks e prev l = encrypted e (length l / 16) prev l ++ drop (16 * (length l / 16)) l

unfoldable pub decrypted_blocks : (List ℕ → List ℕ → List ℕ) → List ℕ → List ℕ → ℕ → Decryption
decrypted_blocks d prev l count = run (step d) (length l / 16) (decryption prev l count)
