-- `sha256::hmac::key_block` meets its contract, by the law of a key over zeros.
use Rattle.std.proofs.Common.{ap, ◌∙◌}
use Rattle.words.specs.Slices.{zeros, copied}
use Rattle.sha256.proofs.Keys.{short_block, long_block}
use Rattle.sha256.proofs.hmac.key_block.Goals as goal

pub returns-then-key-le64 : goal.returns-then-key-le64
returns-then-key-le64 c = c.first.ensures ∙ short_block c.args.key.now c.if-key-le64.true

pub returns : goal.returns
returns c = c.first-2.ensures ∙ ap (copied (zeros 64)) c.hash.ensures ∙ long_block c.args.key.now c.if-key-le64.false
