-- `sha256::hash::Running::rest` meets its contract, by the law of a piece that follows whole blocks.
use Rattle.std.proofs.Common.{ap, ◌∙◌}
use Rattle.words.specs.Slices.{zeros, copied}
use Rattle.sha256.proofs.Pieces.{follows}
use Rattle.sha256.proofs.hash.Running.rest.Goals as goal

pub returns : goal.returns
returns c m e =
    follows m c.args.s.now e c.requires c.advanced-len.ensures c.folds-v.ensures (c.first-tail.ensures ∙ ap (copied (zeros 64)) c.as_chunks.ensures.back)
