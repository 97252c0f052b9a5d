-- `sha256::compression::again` meets its contract: the padded bytes of a hash value are its words and the padding.
use Rattle.std.proofs.Common.{sym, rules}
use Rattle.sha256.proofs.Digest.{again_words}
use Rattle.sha256.proofs.compression.again.Goals as goal

pub returns : goal.returns
returns c = rw (c.compress.ensures, c.begin.ensures) (sym (again_words c.args.v (λ i. search rules)))
