-- `stretch::Stretcher::step` meets its contract: a hash of 32 bytes is one compression.
use Rattle.std.proofs.Common.{refl}
use Rattle.stretch.proofs.Counts.{step_is}
use Rattle.stretch.proofs.Stretcher.step.Goals as goal

pub returns : goal.returns
returns c = step_is c.args.self c.again-v.ensures refl
