-- Published vectors of SHA-256 and HMAC-SHA-256, the definitions computed: one statement over their list, and one with a long key.
use Prim.Native.Nat.{ℕ}
use mathlib.Core.Path.{◌≡◌, refl}
use mathlib.Core.List.{List, [], ◌∷◌, map}
use lib.ListN.{replicate}
use Rattle.words.specs.Numbers.{number_low, number_high, bytes_low, bytes_high}
use Rattle.words.specs.Rotation.{rotate_right}
use Rattle.sha256.specs.Sha256.{three, ks, padding, word_of, words_of, initial, back, following, extended, T1, T2, round_of, rounds_of, sum_of, compress_of, hash_value, hash_of, digest_of, sha256}
use Rattle.sha256.specs.Hmac.{key_block, keyed, hmac_of}

-- (by the definitions, published): a message and a value are written as one number, highest byte first
abbrev pub published : List (List ℕ × List ℕ)
published =
    -- FIPS 180-2, B.1; the empty message (FIPS 180-2 has none: NIST's example values); B.2, of two blocks
    (sha256 (bytes_high 3 0x616263), bytes_high 32 0xba7816bf8f01cfea414140de5dae2223b00361a396177a9cb410ff61f20015ad)
    ∷ (sha256 [], bytes_high 32 0xe3b0c44298fc1c149afbf4c8996fb92427ae41e4649b934ca495991b7852b855)
    ∷ (sha256 (bytes_high 56 0x6162636462636465636465666465666765666768666768696768696a68696a6b696a6b6c6a6b6c6d6b6c6d6e6c6d6e6f6d6e6f706e6f7071), bytes_high 32 0x248d6a61d20638b8e5c026930c3e6039a33ce45964ff2167f6ecedd419db06c1)
    -- RFC 4231, test cases 1 and 2
    ∷ (hmac_of (replicate 20 0x0b) (bytes_high 8 0x4869205468657265), bytes_high 32 0xb0344c61d8db38535ca8afceaf0bf12b881dc200c9833da726e9376c2e32cff7)
    ∷ (hmac_of (bytes_high 4 0x4a656665) (bytes_high 28 0x7768617420646f2079612077616e7420666f72206e6f7468696e673f), bytes_high 32 0x5bdcc146bf60754e6a042426089575c75a003f089d2739839dec58b964ec3843)
    ∷ []

pub vectors : map (λ v. v.0) published ≡ map (λ v. v.1) published
unfolding number_low number_high bytes_low bytes_high rotate_right three ks padding word_of words_of initial back following extended T1 T2 round_of rounds_of sum_of compress_of hash_value hash_of digest_of sha256 key_block keyed hmac_of
vectors = refl

-- test case 6, whose key is longer than a block; by itself, since in the list it takes 0.7 GB more
pub long_key : hmac_of (replicate 131 0xaa) (bytes_high 54 0x54657374205573696e67204c6172676572205468616e20426c6f636b2d53697a65204b6579202d2048617368204b6579204669727374)
    ≡ bytes_high 32 0x60e431591ee0b67f0d8a26aacbf5b77f8e0bc6213728c5140546040f0ee37f54
unfolding number_low number_high bytes_low bytes_high rotate_right three ks padding word_of words_of initial back following extended T1 T2 round_of rounds_of sum_of compress_of hash_value hash_of digest_of sha256 key_block keyed hmac_of
long_key = refl
