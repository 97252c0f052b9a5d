-- HMAC-SHA-256, as RFC 2104 defines it, section 2: H is SHA-256, and B, the length of its blocks in bytes, is 64.
use Rattle.std.specs.Prelude.{ℕ, ◌-◌, cond, List, ◌++◌, map, length, replicate, bit_xor, nat_lt}
use Rattle.sha256.specs.Sha256.{sha256}

-- a key longer than B bytes is first hashed
abbrev pub short_key : List ℕ → List ℕ
short_key k = cond (nat_lt 64 (length k)) (sha256 k) k

-- (1) append zeros to the end of K to create a B byte string
unfoldable pub key_block : List ℕ → List ℕ
key_block k = short_key k ++ replicate (64 - length (short_key k)) 0

-- (2), (5): XOR with ipad, the byte 0x36 repeated, or with opad, the byte 0x5C repeated
unfoldable pub keyed : ℕ → List ℕ → List ℕ
keyed x k = map (λ (b : ℕ). bit_xor b x) (key_block k)

-- H(K XOR opad, H(K XOR ipad, text))
unfoldable pub hmac_of : List ℕ → List ℕ → List ℕ
hmac_of k m = sha256 (keyed 0x5c k ++ sha256 (keyed 0x36 k ++ m))
