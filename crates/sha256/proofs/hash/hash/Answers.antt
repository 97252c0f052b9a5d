-- `sha256::hash::hash` meets its contract: the slice is one piece, after nothing.
use Rattle.std.proofs.Common.{[], ap, ◌∙◌}
use Rattle.sha256.specs.Sha256.{digest_of, sha256}
use Rattle.sha256.proofs.hash.hash.Goals as goal

pub returns : goal.returns
unfolding sha256
returns c = c.digest.ensures ∙ ap digest_of (c.finish.ensures _ (c.take_in.ensures [] c.start.ensures))
