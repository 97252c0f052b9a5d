-- `twofish::key::subkeys` meets its contract: after i turns the first 2 i places hold the definition's subkeys.
use Rattle.words.specs.Table.{at}
use Rattle.twofish.specs.Key.{subkey}
use mathlib.Core.Path.{◌≡◌}
use Prim.Native.Nat.{ℕ, ◌*◌, ◌<◌}
use lib.ListN.{length}
use Rattle.twofish.proofs.key.subkeys.Given as goal

abbrev pub invariant-loop-i : goal.invariant-loop-i
invariant-loop-i l = (length l.k ≡ 40) × ((j : ℕ) → j < 2 * l.i → at l.k j ≡ subkey (at l.t0) (at l.t1) l.e l.o j)
