-- `words::rotation::left` meets its contract, by the law of a rotation by shifts, which is what std's rotation is.
use mathlib.Core.Path.{◌∙◌}
use Prim.Native.Nat.{◌%◌}
use native.Mathlib.Omega.{arith}
use Rattle.words.proofs.RotationLaws.{left_shifts}
use Rattle.words.proofs.rotation.left.Goals as goal

pub returns : goal.returns
returns c = c.rotate_left.ensures ∙ left_shifts 32 (c.args.n % 32) c.args.x (omega arith) c.ranges.x.fits
