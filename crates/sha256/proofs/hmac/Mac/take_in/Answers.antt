-- `sha256::hmac::Mac::take_in` meets its contract, by the law of the inner hash.
use Rattle.sha256.proofs.Keys.{takes}
use Rattle.sha256.proofs.hmac.Mac.take_in.Goals as goal

pub returns : goal.returns
returns c = takes c.args.s.now c.take_in-inner.ensures
