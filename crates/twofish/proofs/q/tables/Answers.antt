-- `twofish::q::tables` meets its contract: one computed test of each of the code's tables.
use Rattle.twofish.specs.Q.{rule0, rule1, table0, table1}
use Rattle.words.specs.Rotation.{rotate_right}
use Rattle.twofish.proofs.Permutations.{follows}
use mathlib.Core.Path.{refl}
use Rattle.twofish.proofs.q.tables.Goals as goal

pub returns : goal.returns
unfolding rule0 rule1 table0 table1 rotate_right
returns c = record { first = follows rule0 _ refl tt; second = follows rule1 _ refl tt }
