-- `twofish::tables::fill` meets its contract: after x turns the first x places hold their entries.
use Rattle.words.specs.Table.{at}
use Rattle.twofish.specs.Tabled.{entry}
use mathlib.Core.Path.{◌≡◌}
use Prim.Native.Nat.{ℕ, ◌<◌}
use lib.ListN.{length}
use Rattle.twofish.proofs.tables.fill.Given as goal

abbrev pub invariant-loop-x : goal.invariant-loop-x
invariant-loop-x l = (length l.r ≡ 256) × ((i : ℕ) → i < l.x → at l.r i ≡ entry (at l.t0) (at l.t1) l.s l.j i)
