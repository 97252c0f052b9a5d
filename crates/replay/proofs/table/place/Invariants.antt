-- `replay::table::place` meets its contract: the loop keeps that what is left of the look-up decides (Looks).
use Rattle.replay.proofs.Places.{Looks}
use Rattle.replay.proofs.table.place.Given as goal

abbrev pub invariant-loop-d : goal.invariant-loop-d
invariant-loop-d l = Looks l.state l.uuid l.d
