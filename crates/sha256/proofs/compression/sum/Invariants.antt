-- `sha256::compression::sum` meets its contract. The invariant of its loop: the words passed are sums.
use Rattle.std.proofs.Common.{◌≡◌, ℕ, ◌<◌, length, slice_index}
use Rattle.sha256.specs.Sha256.{plus}
use Rattle.sha256.proofs.compression.sum.Given as goal

abbrev pub invariant-loop-i : goal.invariant-loop-i
invariant-loop-i l = (length l.z ≡ 8) × ((k : ℕ) → k < l.i → slice_index l.z k ≡ plus (slice_index l.fn.x k) (slice_index l.fn.y k))
