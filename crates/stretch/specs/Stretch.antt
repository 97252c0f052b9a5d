-- Key stretching (document 002, 2.3, and 01, "The file, by offset"): hash passphrase then salt once, then hash the 32-byte result ITER more
-- times. Every compression is one step, which adds one to the count of those that led there.
use Rattle.std.specs.Prelude.{ℕ, zero, suc, ◌+◌, ◌/◌, ◌%◌, ◌^◌, List, ◌++◌, length}
use Rattle.sha256.specs.Sha256.{padded, block_of, initial, compress_of, digest_of}
use Rattle.stretch.specs.declared.Stretcher.{Stretcher}

-- the least ITER
abbrev pub floor : ℕ
floor = 2048

-- one compression more; the count is a number of 64 bits
unfoldable pub compressed : Stretcher → List ℕ → Stretcher
compressed s b = record { v = compress_of s.v b; count = (s.count + 1) % 2 ^ 64 }

-- the first n blocks of a padded message, from the count c on
unfoldable pub compressions : ℕ → List ℕ → ℕ → Stretcher
compressions c s zero = record { v = initial; count = c }
compressions c s (suc n) = compressed (compressions c s n) (block_of n s)

-- the hash of a message, from the count c on
unfoldable pub hashed : ℕ → List ℕ → Stretcher
hashed c m = compressions c (padded m) (length (padded m) / 64)

-- the first hash; a further one, of the 32 bytes so far; and n further ones
unfoldable pub start_of : List ℕ → List ℕ → Stretcher
start_of passphrase salt = hashed 0 (passphrase ++ salt)

unfoldable pub step_of : Stretcher → Stretcher
step_of s = hashed s.count (digest_of s.v)

unfoldable pub stretched_of : ℕ → Stretcher → Stretcher
stretched_of zero s = s
stretched_of (suc n) s = step_of (stretched_of n s)

-- the 32 bytes that a state holds: after ITER steps they are P', and one step later they are the check value, SHA-256 of P'
unfoldable pub key_of : Stretcher → List ℕ
key_of s = digest_of s.v
