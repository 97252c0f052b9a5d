-- `sha256::hmac::Mac::finish` meets its contract, by the laws of both hashes.
use Rattle.sha256.proofs.Keys.{ends}
use Rattle.sha256.proofs.hmac.Mac.finish.Goals as goal

pub returns : goal.returns
returns c = ends c.digest-d.result c.finish.ensures c.digest-d.ensures c.take_in.ensures c.finish-2.ensures c.digest.ensures
