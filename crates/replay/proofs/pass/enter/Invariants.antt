-- `replay::pass::enter` meets its contract: the loop keeps that the records so far have gone in (Entering).
use Rattle.replay.proofs.Passing.{Entering}
use Rattle.replay.proofs.pass.enter.Given as goal

abbrev pub invariant-loop-r : goal.invariant-loop-r
invariant-loop-r l = Entering l.initial.state l.trace l.state l.r-index
