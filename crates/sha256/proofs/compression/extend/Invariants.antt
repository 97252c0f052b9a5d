-- `sha256::compression::extend` meets its contract. The invariant of its loop: what the words so far are extended to is the whole schedule.
use Rattle.std.proofs.Common.{◌≡◌, ◌-◌, length, take}
use Rattle.sha256.specs.Sha256.{extended, schedule_of}
use Rattle.sha256.proofs.compression.extend.Given as goal

abbrev pub invariant-loop-t : goal.invariant-loop-t
invariant-loop-t l = (length l.w ≡ 64) × (extended (64 - l.t) (take l.t l.w) ≡ schedule_of (take 16 l.fn.w))
