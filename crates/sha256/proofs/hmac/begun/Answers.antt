-- `sha256::hmac::begun` meets its contract: the block is one piece, after nothing.
use Rattle.std.proofs.Common.{[], ap, ◌∙◌}
use Rattle.sha256.specs.Running.{running_of}
use Rattle.sha256.proofs.hmac.begun.Goals as goal

pub returns : goal.returns
returns c = c.take_in.ensures [] c.start.ensures ∙ ap running_of c.keyed.ensures
