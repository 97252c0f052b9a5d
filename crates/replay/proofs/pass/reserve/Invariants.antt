-- `replay::pass::reserve` meets its contract: the loop keeps that the records so far have places (Reserving).
use Rattle.replay.proofs.Passing.{Reserving}
use Rattle.replay.proofs.pass.reserve.Given as goal

abbrev pub invariant-loop-n : goal.invariant-loop-n
invariant-loop-n l = Reserving l.initial.state l.trace l.state l.n
