-- `stretch::Stretcher::start` meets its contract. The invariant of its loop: the blocks passed are taken in, and counted.
use Rattle.std.proofs.Common.{◌≡◌, ◌++◌}
use Rattle.sha256.specs.Sha256.{padded}
use Rattle.stretch.specs.Stretch.{compressions}
use Rattle.stretch.proofs.Stretcher.start.Given as goal

abbrev pub invariant-loop-q : goal.invariant-loop-q
invariant-loop-q l = l.s ≡ compressions 0 (padded (l.passphrase ++ l.salt)) l.q
