-- `twofish::Schedule::encrypt` meets its contract: after i turns the loop holds the definition's first 2 i rounds.
use Rattle.twofish.specs.Cipher.{rounds}
use Rattle.words.specs.Table.{at}
use Rattle.twofish.specs.Tabled.{tabled_g}
use mathlib.Core.Path.{◌≡◌}
use Prim.Native.Nat.{◌*◌}
use Rattle.twofish.proofs.Schedule.encrypt.Given as goal

abbrev pub invariant-loop-i : goal.invariant-loop-i
invariant-loop-i l = l.y ≡ rounds (tabled_g l.self.g) (at l.self.k) (2 * l.i) l.initial.y
