-- `stretch::Stretcher::stretched` meets its contract. The invariant of its loop: the state after as many steps as it has gone.
use Rattle.std.proofs.Common.{◌≡◌}
use Rattle.stretch.specs.Stretch.{stretched_of}
use Rattle.stretch.proofs.Stretcher.stretched.Given as goal

abbrev pub invariant-loop : goal.invariant-loop
invariant-loop l = l.s ≡ stretched_of l.counter l.fn.self
