-- `words::rotation::right` meets its contract, by the law of a rotation by shifts, which is what std's rotation is.
use mathlib.Core.Path.{◌∙◌}
use Prim.Native.Nat.{◌%◌}
use native.Mathlib.Omega.{arith}
use Rattle.words.proofs.RotationLaws.{right_shifts}
use Rattle.words.proofs.rotation.right.Goals as goal

pub returns : goal.returns
returns c = c.rotate_right.ensures ∙ right_shifts 32 (c.args.n % 32) c.args.x (omega arith) c.ranges.x.fits
