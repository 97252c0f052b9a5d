-- Published vectors of Twofish with keys of 256 bits, as one statement over their list: the definitions are computed.
use Prim.Native.Nat.{ℕ}
use mathlib.Core.Path.{◌≡◌, refl}
use mathlib.Core.List.{List, [], ◌∷◌}
use lib.ListN.{replicate}
use Rattle.words.specs.Numbers.{number_low, bytes_low, bytes_high}
use Rattle.words.specs.Rotation.{rotate_right, rotate_left}
use Rattle.twofish.specs.Field.{twice, times, gf}
use Rattle.twofish.specs.Q.{rule0, rule1, table0, table1}
use Rattle.twofish.specs.Key.{evens, odds, box_key, mds, y0, y1, y2, y3, h, word_a, word_b, subkey, subkeys, g}
use Rattle.twofish.specs.Cipher.{whiten, F0, F1, round, unround, rounds, unrounds, encrypt, decrypt}
use Rattle.twofish.specs.Twofish.{block_of, block_bytes, encrypt_words, decrypt_words, encrypt_block, decrypt_block}

-- The submission's known answers: the first of the table (key and text zero), and the key of the intermediate values; each back again
abbrev key : List ℕ
key = bytes_high 32 0x0123456789ABCDEFFEDCBA987654321000112233445566778899AABBCCDDEEFF

-- by the definitions, and published: two lists, since one of pairs takes five times as long to check
pub vectors : encrypt_block (replicate 32 0) (replicate 16 0)
    ∷ encrypt_block key (replicate 16 0)
    ∷ decrypt_block (replicate 32 0) (bytes_high 16 0x57FF739D4DC92C1BD7FC01700CC8216F)
    ∷ decrypt_block key (bytes_high 16 0x37527BE0052334B89F0CFCCAE87CFA20)
    ∷ []
    ≡ bytes_high 16 0x57FF739D4DC92C1BD7FC01700CC8216F ∷ bytes_high 16 0x37527BE0052334B89F0CFCCAE87CFA20 ∷ replicate 16 0 ∷ replicate 16 0 ∷ []
unfolding number_low bytes_low bytes_high rotate_right rotate_left twice times gf rule0 rule1 table0 table1 evens odds box_key mds y0 y1 y2 y3 h word_a word_b subkey subkeys g whiten F0 F1 round unround rounds unrounds encrypt decrypt block_of block_bytes encrypt_words decrypt_words encrypt_block decrypt_block
vectors = refl
