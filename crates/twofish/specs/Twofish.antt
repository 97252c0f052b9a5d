-- Twofish under a key of 32 bytes, on blocks of 16 bytes (the paper's 4).
use Rattle.std.specs.Prelude.{ℕ, ◌+◌, List, [], ◌∷◌, ◌++◌}
use Rattle.words.specs.Numbers.{number_low, bytes_low}
use Rattle.words.specs.Table.{at}
use Rattle.twofish.specs.Q.{q0, q1}
use Rattle.twofish.specs.Key.{subkeys, g}
use Rattle.twofish.specs.Cipher.{encrypt, decrypt}
use Rattle.twofish.specs.declared.Block.{Block}

-- the word of the four bytes from i on
abbrev pub word_at : List ℕ → ℕ → ℕ
word_at l i = number_low (at l i ∷ at l (i + 1) ∷ at l (i + 2) ∷ at l (i + 3) ∷ [])

-- 16 bytes as four words, and back
unfoldable pub block_of : List ℕ → Block
block_of l = record { a = word_at l 0; b = word_at l 4; c = word_at l 8; d = word_at l 12 }

unfoldable pub block_bytes : Block → List ℕ
block_bytes x = bytes_low 4 x.a ++ (bytes_low 4 x.b ++ (bytes_low 4 x.c ++ bytes_low 4 x.d))

-- four words, under the key m
unfoldable pub encrypt_words : List ℕ → Block → Block
encrypt_words m = encrypt (g q0 q1 m) (at (subkeys q0 q1 m))

unfoldable pub decrypt_words : List ℕ → Block → Block
decrypt_words m = decrypt (g q0 q1 m) (at (subkeys q0 q1 m))

-- 16 bytes, under the key m
unfoldable pub encrypt_block : List ℕ → List ℕ → List ℕ
encrypt_block m b = block_bytes (encrypt_words m (block_of b))

unfoldable pub decrypt_block : List ℕ → List ℕ → List ℕ
decrypt_block m b = block_bytes (decrypt_words m (block_of b))
