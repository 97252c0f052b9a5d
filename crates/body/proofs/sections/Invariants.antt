-- `body::sections` meets its contract: the loop keeps where the pass stands (Stands), and the place grows at each turn.
use Prim.Native.Nat.{◌-◌}
use lib.ListN.{length}
use Rattle.body.proofs.Stands.{Stands}
use Rattle.body.proofs.sections.Given as goal

abbrev pub invariant-loop-field : goal.invariant-loop-field
invariant-loop-field l = Stands l.body l.c l.x

abbrev pub decreases-loop-field : goal.decreases-loop-field
decreases-loop-field l = length l.body - l.c.place
