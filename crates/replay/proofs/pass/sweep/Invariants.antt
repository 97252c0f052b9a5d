-- `replay::pass::sweep` meets its contract: the loop keeps that the entries so far are swept.
use mathlib.Core.Path.{◌≡◌}
use Rattle.replay.specs.Waiting.{swept_to}
use Rattle.replay.proofs.pass.sweep.Given as goal

abbrev pub invariant-loop-i : goal.invariant-loop-i
invariant-loop-i l = l.state ≡ swept_to l.initial.state l.i
