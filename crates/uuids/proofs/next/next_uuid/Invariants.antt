-- `uuids::next::next_uuid` meets its contract: the loop keeps that no UUID was passed (Seeks), and the place grows at each turn.
use Prim.Native.Nat.{◌-◌}
use Rattle.uuids.proofs.Steps.{Seeks}
use Rattle.uuids.proofs.next.next_uuid.Given as goal

abbrev pub invariant-loop-at : goal.invariant-loop-at
invariant-loop-at l = Seeks l.body l.from l.at

abbrev pub decreases-loop-at : goal.decreases-loop-at
decreases-loop-at l = l.n - l.at
