-- `uuids::batch::pass` meets its contract: the loop keeps what a batch has come to (Passes), and goes on as long as nothing was hit.
use mathlib.Core.Path.{◌≡◌}
use Rattle.std.specs.Prelude.{None}
use Rattle.uuids.proofs.Passes.{Passes}
use Rattle.uuids.proofs.batch.pass.Given as goal

abbrev pub invariant-loop-n : goal.invariant-loop-n
invariant-loop-n l = Passes l.body l.base l.number l.slots l.at l.n l.growing l.next l.members × (l.hit ≡ None)
