-- The key of HMAC as a block, and the running HMAC as two running hashes: what the inner one takes in after its key is the message.
use Rattle.std.proofs.Common.{◌≡◌, ℕ, ◌-◌, ◌*◌, ◌/◌, ◌<◌, ◌≤◌, Bool, true, false, cond, ltb, List, [], ◌++◌, map, length, get_or, replicate, sym, refl, ap, ◌∙◌, ap₂, append_assoc, append-nil, arith, length-append, drop_of_length-le, ltb-false, le-ltb, lt-ltb}
use lib.Bits.{bit_xor}
use lib.ListN.{length-map, length-replicate}
use Rattle.std.proofs.lemmas.Grind.{same_number_lists}
use Rattle.std.proofs.lemmas.List.{get_or-map}
use Rattle.words.specs.Slices.{zeros, copied}
use Rattle.sha256.specs.declared.hash.Running.{Running}
use Rattle.sha256.specs.declared.hmac.Mac.{Mac}
use Rattle.sha256.specs.Sha256.{hash_of, digest_of, sha256}
use Rattle.sha256.specs.Hmac.{short_key, key_block, keyed, hmac_of}
use Rattle.sha256.specs.Running.{running_of, left, tail_of, mac_of, MacTakes, MacEnds, Takes as RunTakes, Ends as RunEnds}
use Rattle.sha256.proofs.Digest.{sha256_sized}
use Rattle.sha256.proofs.Pieces.{same, over_zeros, state as run_state}

-- a short key over zeros
pub short_block : (k : List ℕ) → length k ≤ 64 → copied (zeros 64) k ≡ key_block k
unfolding key_block
short_block k h = rw (le-ltb 64 (length k) h) (over_zeros k h)

pub long_block : (k : List ℕ) → 64 < length k → copied (zeros 64) (sha256 k) ≡ key_block k
unfolding key_block
long_block k h =
    let z = (sha256_sized k).long in
    rw (lt-ltb 64 (length k) h) (over_zeros (sha256 k) (omega arith))

filled : (l : List ℕ) → length l ≤ 64 → length (l ++ replicate (64 - length l) 0) ≡ 64
filled l h = simp (length-append, length-replicate) (omega arith)

short_enough : (k : List ℕ) → length (short_key k) ≤ 64
short_enough k = go (ltb 64 (length k)) refl
  where
    go : (t : Bool) → ltb 64 (length k) ≡ t → length (cond t (sha256 k) k) ≤ 64
    go true e = let z = (sha256_sized k).long in omega arith
    go false e = ltb-false 64 (length k) e

pub length_block : (k : List ℕ) → length (key_block k) ≡ 64
unfolding key_block
length_block k = filled (short_key k) (short_enough k)

length_keyed : (x : ℕ) (k : List ℕ) → length (keyed x k) ≡ 64
unfolding keyed
length_keyed x k = length-map (key_block k) (λ (b : ℕ). bit_xor b x) ∙ length_block k

-- x in each of the 64 bytes
pub keyed_from : (x : ℕ) (k p : List ℕ) → length p ≡ 64 → ((i : ℕ) → i < 64 → get_or p i 0 ≡ bit_xor (get_or (key_block k) i 0) x) → p ≡ keyed x k
unfolding keyed
keyed_from x k p l h =
    let n = length_block k in
    let m = length-map (key_block k) (λ (b : ℕ). bit_xor b x) in
    same_number_lists p (map (λ (b : ℕ). bit_xor b x) (key_block k)) (omega arith) (λ i b.
    h i (omega arith) ∙ sym (get_or-map (λ (b : ℕ). bit_xor b x) (key_block k) i 0 0 (omega arith)))

-- ---- the state

abbrev pub state : Running → List ℕ → Mac
state i o = record { inner = i; outer = o }

-- after a whole block nothing is left
block : (l : List ℕ) {v : List ℕ} → length l ≡ 64 → v ≡ (running_of l).v → run_state v 64 (replicate 64 0) ≡ running_of l
unfolding running_of
block l h e =
    let z : left l ≡ [] = drop_of_length-le l {i = length l / 64 * 64} (omega arith) in
    same e (omega arith) (ap tail_of (sym z))

pub begins : (k : List ℕ) {i o : Running} → i ≡ running_of (keyed 0x36 k) → o ≡ running_of (keyed 0x5c k) → state i o.v ≡ mac_of k []
unfolding mac_of
begins k p q = ap₂ state (p ∙ ap running_of (sym (append-nil (keyed 0x36 k)))) (ap (λ (s : Running). s.v) q)

pub takes : (d : List ℕ) {st : Mac} {i : Running} → RunTakes st.inner d i → MacTakes st d (state i st.outer)
unfolding mac_of
takes d f k m e =
    ap₂ state
    (f (keyed 0x36 k ++ m) (ap (λ (s : Mac). s.inner) e) ∙ ap running_of (append_assoc (keyed 0x36 k) m d))
    (ap (λ (s : Mac). s.outer) e)

pub ends : (d : List ℕ) {st : Mac} {b : Running} {v w : List ℕ} {r : List ℕ} → RunEnds st.inner v → d ≡ digest_of v
    → RunTakes (run_state st.outer 64 (replicate 64 0)) d b → RunEnds b w → r ≡ digest_of w → MacEnds st r
unfolding mac_of hmac_of sha256
ends d x i t y o k m e =
    let a = block (keyed 0x5c k) (length_keyed 0x5c k) (ap (λ (s : Mac). s.outer) e) in
    o ∙ ap digest_of (y (keyed 0x5c k ++ d) (t (keyed 0x5c k) a))
    ∙ ap (λ (d : List ℕ). digest_of (hash_of (keyed 0x5c k ++ d))) (i ∙ ap digest_of (x (keyed 0x36 k ++ m) (ap (λ (s : Mac). s.inner) e)))
