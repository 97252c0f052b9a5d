-- `sha256::hmac::keyed` meets its contract: x in each byte of the key's block.
use Rattle.std.proofs.Common.{arith}
use Rattle.sha256.proofs.Keys.{keyed_from}
use Rattle.sha256.proofs.hmac.keyed.Goals as goal

pub returns : goal.returns
returns c = keyed_from c.args.x c.args.key.now c.loop-i.p c.loop-i.invariant.long (λ i h. c.loop-i.invariant.passed i (omega arith))
