-- `body::records::record_at` meets its contract: the loop keeps what the fields so far and those that are left give (Keeps), and the place grows at each turn.
use Prim.Native.Nat.{◌-◌}
use lib.ListN.{length}
use Rattle.body.proofs.Keeps.{Keeps}
use Rattle.body.proofs.records.record_at.Given as goal

abbrev pub invariant-loop-field : goal.invariant-loop-field
invariant-loop-field l = Keeps l.body l.at l.c l.firsts l.n

abbrev pub decreases-loop-field : goal.decreases-loop-field
decreases-loop-field l = length l.body - l.c.place
