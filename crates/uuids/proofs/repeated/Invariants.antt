-- `uuids::repeated` meets its contract: the loop keeps what the batches so far have come to (Batches), and each batch has a member.
use Prim.Native.Nat.{◌-◌}
use lib.ListN.{length}
use Rattle.uuids.proofs.Batches.{Batches}
use Rattle.uuids.proofs.repeated.Given as goal

abbrev pub invariant-loop-number : goal.invariant-loop-number
invariant-loop-number l = Batches l.body l.from l.at l.number l.best

abbrev pub decreases-loop-number : goal.decreases-loop-number
decreases-loop-number l = length l.body - l.number
