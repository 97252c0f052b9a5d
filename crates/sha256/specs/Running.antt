-- What the running hash and the running HMAC keep of the bytes so far: a function of the joined pieces.
use Rattle.std.specs.Prelude.{◌≡◌, ℕ, ◌-◌, ◌*◌, ◌/◌, ◌%◌, ◌^◌, List, ◌++◌, length, drop, replicate, fold}
use Rattle.std.specs.Simd.{first_chunks}
use Rattle.sha256.specs.declared.hash.Running.{Running}
use Rattle.sha256.specs.declared.hmac.Mac.{Mac}
use Rattle.sha256.specs.Sha256.{hash_value, compress_of, words_of, hash_of}
use Rattle.sha256.specs.Hmac.{keyed, hmac_of}

-- the bytes after the last whole block; the tail that holds t: t, and zeros up to a block
abbrev pub left : List ℕ → List ℕ
left m = drop (length m / 64 * 64) m

abbrev pub tail_of : List ℕ → List ℕ
tail_of t = t ++ replicate (64 - length t) 0

-- the state after the bytes m: the hash value of its whole blocks, its length, and what is left
unfoldable pub running_of : List ℕ → Running
running_of m = record { v = hash_value m (length m / 64); len = length m % 2 ^ 64; tail = tail_of (left m) }

-- d takes st to r: where st is the state after m, r is the state after m ++ d
abbrev pub Takes : Running → List ℕ → Running → Type 0
Takes st d r = (m : List ℕ) → st ≡ running_of m → r ≡ running_of (m ++ d)

-- r is the hash value of what st has taken in
abbrev pub Ends : Running → List ℕ → Type 0
Ends st r = (m : List ℕ) → st ≡ running_of m → r ≡ hash_of m

-- the first n blocks of s taken into a hash value
unfoldable pub folds_of : List ℕ → List ℕ → ℕ → List ℕ
folds_of v s n = fold (λ v b. compress_of v (words_of 16 b)) v (first_chunks 64 n s)

-- the same of HMAC: the state after the message m under the key k
unfoldable pub mac_of : List ℕ → List ℕ → Mac
mac_of k m = record { inner = running_of (keyed 0x36 k ++ m); outer = (running_of (keyed 0x5c k)).v }

abbrev pub MacTakes : Mac → List ℕ → Mac → Type 0
MacTakes st d r = (k m : List ℕ) → st ≡ mac_of k m → r ≡ mac_of k (m ++ d)

abbrev pub MacEnds : Mac → List ℕ → Type 0
MacEnds st r = (k m : List ℕ) → st ≡ mac_of k m → r ≡ hmac_of k m
