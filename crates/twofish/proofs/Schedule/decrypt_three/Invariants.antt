-- `twofish::Schedule::decrypt_three` meets its contract: what is left of the 16 rounds back of each block, with 2 i still to go, ends in the same blocks.
use Rattle.twofish.specs.Cipher.{unrounds}
use Rattle.words.specs.Table.{at}
use Rattle.twofish.specs.Tabled.{tabled_g}
use Rattle.twofish.specs.Beside.{threefold}
use mathlib.Core.Path.{◌≡◌}
use Prim.Native.Nat.{◌*◌}
use Rattle.twofish.proofs.Schedule.decrypt_three.Given as goal

abbrev pub invariant-loop-i : goal.invariant-loop-i
invariant-loop-i l =
    threefold (unrounds (tabled_g l.self.g) (at l.self.k) (2 * l.i-counter)) l.u ≡ threefold (unrounds (tabled_g l.self.g) (at l.self.k) 16) l.initial.u
