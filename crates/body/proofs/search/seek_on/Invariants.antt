-- `body::search::seek_on` meets its contract: the loop keeps that with the fields that are left it comes to what it comes to from where it began (Hunts), and the place grows at each turn.
use Prim.Native.Nat.{◌-◌}
use lib.ListN.{length}
use Rattle.body.proofs.Hunt.{Hunts}
use Rattle.body.specs.Search.{searched_on}
use Rattle.body.proofs.search.seek_on.Given as goal

abbrev pub invariant-loop-field : goal.invariant-loop-field
invariant-loop-field l = Hunts l.body l.uuid.low l.uuid.high (searched_on l.uuid.low l.uuid.high l.initial.x l.initial.c l.body) l.c l.x

abbrev pub decreases-loop-field : goal.decreases-loop-field
decreases-loop-field l = length l.body - l.c.place
