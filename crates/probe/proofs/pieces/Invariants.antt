-- `probe::pieces` meets its contract: the state is always the one after the bytes before those that are left.
use mathlib.Core.Path.{◌≡◌}
use mathlib.Core.List.{List, ◌++◌}
use Prim.Native.Nat.{ℕ}
use Rattle.sha256.specs.Running.{running_of}
use Rattle.probe.proofs.pieces.Given as goal

abbrev pub invariant-loop-part : goal.invariant-loop-part
invariant-loop-part l = (t : List ℕ) × (l.m ≡ t ++ l.part-iterator.rest.now) × (l.st ≡ running_of t)
