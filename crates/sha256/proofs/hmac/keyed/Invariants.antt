-- `sha256::hmac::keyed` meets its contract. The invariant of its loop: x in the bytes passed, and the others as they were.
use Rattle.std.proofs.Common.{◌≡◌, ℕ, ◌<◌, ◌≤◌, length, slice_index, bit_xor}
use Rattle.sha256.specs.Hmac.{key_block}
use Rattle.sha256.proofs.hmac.keyed.Given as goal

abbrev pub invariant-loop-i : goal.invariant-loop-i
invariant-loop-i l = record {
  long : length l.p ≡ 64;
  passed : (k : ℕ) → k < l.i → slice_index l.p k ≡ bit_xor (slice_index (key_block l.key) k) l.x;
  ahead : (k : ℕ) → l.i ≤ k → slice_index l.p k ≡ slice_index (key_block l.key) k;
}
