-- `mac::feed` meets its contract. The invariant of its loop: what is taken in, with the data of the fields that are left, is all that the HMAC covers.
use Prim.Native.Nat.{◌-◌}
use lib.ListN.{length}
use Rattle.mac.proofs.Feeding.{Fed}
use Rattle.mac.proofs.feed.Given as goal

abbrev pub invariant-loop-field : goal.invariant-loop-field
invariant-loop-field l = Fed l.body l.initial.st l.c l.st

abbrev pub decreases-loop-field : goal.decreases-loop-field
decreases-loop-field l = length l.body - l.c.place
