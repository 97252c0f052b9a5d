-- `sha256::hmac::hmac` meets its contract: the message is one piece, after nothing.
use Rattle.std.proofs.Common.{[]}
use Rattle.sha256.proofs.hmac.hmac.Goals as goal

pub returns : goal.returns
returns c = c.finish.ensures c.args.key.now _ (c.take_in.ensures _ [] c.start.ensures)
