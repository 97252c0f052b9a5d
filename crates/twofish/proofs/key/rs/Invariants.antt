-- `twofish::key::rs` meets its contract: the sum so far, with what is left of the row and of the bytes, makes the product.
use Rattle.twofish.specs.Field.{dot}
use Rattle.twofish.specs.Key.{eight}
use mathlib.Core.Path.{◌≡◌}
use lib.ListN.{drop}
use Rattle.twofish.proofs.key.rs.Given as goal

abbrev pub invariant-loop-k : goal.invariant-loop-k
invariant-loop-k l = dot 0x14D l.sum (drop l.k l.row) (drop l.k (eight l.m l.i)) ≡ dot 0x14D 0 l.row (eight l.m l.i)
