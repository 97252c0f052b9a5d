-- `sha256::hmac::Mac::start` meets its contract: both keys are taken in, and nothing else.
use Rattle.sha256.proofs.Keys.{begins}
use Rattle.sha256.proofs.hmac.Mac.start.Goals as goal

pub returns : goal.returns
returns c = begins c.args.key.now c.begun-inner.ensures c.begun-o.ensures
