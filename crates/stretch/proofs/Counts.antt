-- What a state of the stretcher holds and how many compressions led there: by recursion on the blocks, and then on the steps.
use Rattle.std.proofs.Common.{◌≡◌, ℕ, zero, suc, ◌+◌, ◌/◌, ◌%◌, ◌^◌, ◌<◌, List, ◌++◌, length, sym, refl, ap, ◌∙◌, add-zero, arith, length-append}
use Rattle.words.specs.Numbers.{Sized}
use Rattle.sha256.specs.Sha256.{padded, block_of, compress_of, hash_value, hash_of, digest_of, sha256}
use Rattle.sha256.proofs.Digest.{digest_sized}
use Rattle.sha256.proofs.Padded.{blocks_are}
use Rattle.stretch.specs.declared.Stretcher.{Stretcher}
use Rattle.stretch.specs.Stretch.{compressed, compressions, hashed, start_of, step_of, stretched_of, key_of}

-- ---- the value

compressions_value : (c : ℕ) (s : List ℕ) (n : ℕ) → (compressions c s n).v ≡ hash_value s n
unfolding compressions compressed hash_value
compressions_value c s zero = refl
compressions_value c s (suc n) = ap (λ (v : List ℕ). compress_of v (block_of n s)) (compressions_value c s n)

pub hashed_value : (c : ℕ) (m : List ℕ) → (hashed c m).v ≡ hash_of m
unfolding hashed hash_of
hashed_value c m = compressions_value c (padded m) (length (padded m) / 64)

-- n more hashes of a list of bytes
unfoldable pub rehashed : ℕ → List ℕ → List ℕ
rehashed zero l = l
rehashed (suc n) l = sha256 (rehashed n l)

start_key : (p s : List ℕ) → key_of (start_of p s) ≡ sha256 (p ++ s)
unfolding key_of start_of sha256
start_key p s = ap digest_of (hashed_value 0 (p ++ s))

pub step_key : (s : Stretcher) → key_of (step_of s) ≡ sha256 (key_of s)
unfolding key_of step_of sha256
step_key s = ap digest_of (hashed_value s.count (digest_of s.v))

-- after n steps: the first hash, and n more
pub stretched_key : (n : ℕ) (p s : List ℕ) → key_of (stretched_of n (start_of p s)) ≡ rehashed n (sha256 (p ++ s))
unfolding stretched_of rehashed
stretched_key zero p s = start_key p s
stretched_key (suc n) p s = step_key (stretched_of n (start_of p s)) ∙ ap sha256 (stretched_key n p s)

pub key_sized : (s : Stretcher) → Sized 32 (key_of s)
unfolding key_of
key_sized s = digest_sized s.v

-- ---- the count

compressions_count : (c : ℕ) (s : List ℕ) (n : ℕ) → c + n < 2 ^ 64 → (compressions c s n).count ≡ c + n
unfolding compressions compressed
compressions_count c s zero h = sym (add-zero c)
compressions_count c s (suc n) h =
    ap (λ (k : ℕ). (k + 1) % 2 ^ 64) (compressions_count c s n (omega arith)) ∙ omega arith

pub hashed_count : (c : ℕ) (m : List ℕ) → c + (length m + 8) / 64 + 1 < 2 ^ 64 → (hashed c m).count ≡ c + (length m + 8) / 64 + 1
unfolding hashed
hashed_count c m h =
    let b = blocks_are m in
    compressions_count c (padded m) (length (padded m) / 64) (omega arith) ∙ omega arith

single : (c : ℕ) (s : List ℕ) → (compressions c s 1).count ≡ (c + 1) % 2 ^ 64
unfolding compressions compressed
single c s = refl

-- a hash of 32 bytes is one compression
one_block : (c : ℕ) (v : List ℕ) → (hashed c (digest_of v)).count ≡ (c + 1) % 2 ^ 64
unfolding hashed
one_block c v =
    let z = (digest_sized v).long in
    let b = blocks_are (digest_of v) in
    let e : length (padded (digest_of v)) / 64 ≡ 1 = omega arith in
    ap (λ (n : ℕ). (compressions c (padded (digest_of v)) n).count) e ∙ single c (padded (digest_of v))

pub step_count : (s : Stretcher) → (step_of s).count ≡ (s.count + 1) % 2 ^ 64
unfolding step_of
step_count s = one_block s.count s.v

step_value : (s : Stretcher) → (step_of s).v ≡ hash_of (digest_of s.v)
unfolding step_of
step_value s = hashed_value s.count (digest_of s.v)

both : {a : Stretcher} {v : List ℕ} {n : ℕ} → v ≡ a.v → n ≡ a.count → ◌≡◌ {A = Stretcher} (record { v = v; count = n }) a
both p q = λ i. record { v = p i; count = q i }

-- a step, as one compression of the words that the state holds
pub step_is : (s : Stretcher) {v : List ℕ} {n : ℕ} → v ≡ hash_of (digest_of s.v) → n ≡ (s.count + 1) % 2 ^ 64
    → ◌≡◌ {A = Stretcher} (record { v = v; count = n }) (step_of s)
step_is s p q = both (p ∙ sym (step_value s)) (q ∙ sym (step_count s))

-- c, the blocks of the first hash
abbrev pub first_blocks : ℕ → ℕ
first_blocks passphrase = (passphrase + 40) / 64 + 1

-- after k steps: the blocks of the first hash, and one for each step
pub stretched_count : (k : ℕ) (p s : List ℕ) → length s ≡ 32 → first_blocks (length p) + k < 2 ^ 64
    → (stretched_of k (start_of p s)).count ≡ first_blocks (length p) + k
unfolding stretched_of start_of
stretched_count zero p s l h =
    let e = length-append p s in
    hashed_count 0 (p ++ s) (omega arith) ∙ omega arith
stretched_count (suc k) p s l h =
    step_count (stretched_of k (start_of p s)) ∙ ap (λ (n : ℕ). (n + 1) % 2 ^ 64) (stretched_count k p s l (omega arith)) ∙ omega arith

-- in all, with the check: c + ITER + 1
pub check_count : (iter : ℕ) (p s : List ℕ) → length s ≡ 32 → first_blocks (length p) + iter + 1 < 2 ^ 64
    → (step_of (stretched_of iter (start_of p s))).count ≡ first_blocks (length p) + iter + 1
check_count iter p s l h =
    step_count (stretched_of iter (start_of p s)) ∙ ap (λ (n : ℕ). (n + 1) % 2 ^ 64) (stretched_count iter p s l (omega arith)) ∙ omega arith
