-- A mode on four words is the mode on their 16 bytes, over any cipher on four words: the bytes of an exclusive or are the exclusive ors of the bytes.
use Rattle.std.proofs.Common.{◌≡◌, ℕ, List, ◌++◌, length, sym, refl, ap, ◌∙◌, ap₂}
use lib.Bits.{xor_lt}
use Rattle.words.specs.Numbers.{bytes_low, Sized}
use Rattle.words.specs.Xor.{xored}
use Rattle.words.proofs.NumberLaws.{bytes_sized}
use Rattle.words.proofs.XorLaws.{xored_append, bytes_xor}
use Rattle.twofish.specs.Twofish.{block_of, block_bytes}
use Rattle.twofish.specs.declared.Block.{Block}
use Rattle.twofish.proofs.Rounds.{Words}
use Rattle.twofish.proofs.Inverse.{block_words, bytes_block, block_bytes_lem}
use Rattle.chain.specs.Blocks.{xor_block, chained, on_bytes, mode_e, mode_d}
use Rattle.chain.specs.declared.Mode.{Mode}
use Rattle.chain.specs.declared.Mode.TheVariants.{Ecb, Cbc}

word_length : (x y : ℕ) → length (bytes_low 4 x) ≡ length (bytes_low 4 y)
word_length x y = (bytes_sized 4 x).long ∙ sym (bytes_sized 4 y).long

xor_bytes : (x y : Block) → block_bytes (xor_block x y) ≡ xored (block_bytes x) (block_bytes y)
unfolding block_bytes
xor_bytes x y =
    ap₂ ◌++◌ (bytes_xor 4 x.a y.a) (ap₂ ◌++◌ (bytes_xor 4 x.b y.b) (ap₂ ◌++◌ (bytes_xor 4 x.c y.c) (bytes_xor 4 x.d y.d)))
    ∙ sym
    (xored_append (bytes_low 4 x.a) (bytes_low 4 y.a) _ _ (word_length x.a y.a)
    ∙ ap (λ (l : List ℕ). xored (bytes_low 4 x.a) (bytes_low 4 y.a) ++ l)
    (xored_append (bytes_low 4 x.b) (bytes_low 4 y.b) _ _ (word_length x.b y.b)
    ∙ ap (λ (l : List ℕ). xored (bytes_low 4 x.b) (bytes_low 4 y.b) ++ l)
    (xored_append (bytes_low 4 x.c) (bytes_low 4 y.c) _ _ (word_length x.c y.c))))

xor_words : (x y : Block) → Words x → Words y → Words (xor_block x y)
xor_words x y v w =
    record {
      fa = xor_lt 32 x.a y.a v.fa w.fa;
      fb = xor_lt 32 x.b y.b v.fb w.fb;
      fc = xor_lt 32 x.c y.c v.fc w.fc;
      fd = xor_lt 32 x.d y.d v.fd w.fd;
    }

-- the words of 16 bytes with a block
block_xor : (b : List ℕ) (p : Block) → Sized 16 b → Words p → block_of (xored b (block_bytes p)) ≡ xor_block (block_of b) p
block_xor b p hb hp =
    ap (λ (l : List ℕ). block_of (xored l (block_bytes p))) (sym (bytes_block b hb))
    ∙ ap block_of (sym (xor_bytes (block_of b) p))
    ∙ block_bytes_lem (xor_block (block_of b) p) (xor_words (block_of b) p (block_words b hb.bytes) hp)

module _ (F : Block → Block) where
  pub words_e : (mode : Mode) (b : List ℕ) (p : Block) → Sized 16 b → Words p
      → block_bytes (F (chained mode p (block_of b))) ≡ mode_e mode (on_bytes F) (block_bytes p) b
  unfolding chained mode_e on_bytes
  words_e Ecb b p hb hp = refl
  words_e Cbc b p hb hp = ap (λ (x : Block). block_bytes (F x)) (sym (block_xor b p hb hp))

  pub words_d : (mode : Mode) (b : List ℕ) (p : Block) → block_bytes (chained mode p (F (block_of b))) ≡ mode_d mode (on_bytes F) (block_bytes p) b
  unfolding chained mode_d on_bytes
  words_d Ecb b p = refl
  words_d Cbc b p = xor_bytes (F (block_of b)) p
