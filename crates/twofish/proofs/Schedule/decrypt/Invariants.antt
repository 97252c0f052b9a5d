-- `twofish::Schedule::decrypt` meets its contract: what is left of the definition's 16 rounds back, with 2 i still to go, ends in the same block.
use Rattle.twofish.specs.Cipher.{unrounds}
use Rattle.words.specs.Table.{at}
use Rattle.twofish.specs.Tabled.{tabled_g}
use mathlib.Core.Path.{◌≡◌}
use Prim.Native.Nat.{◌*◌}
use Rattle.twofish.proofs.Schedule.decrypt.Given as goal

abbrev pub invariant-loop-i : goal.invariant-loop-i
invariant-loop-i l =
    unrounds (tabled_g l.self.g) (at l.self.k) (2 * l.i) l.y ≡ unrounds (tabled_g l.self.g) (at l.self.k) 16 l.initial.y
