-- `sha256::hash::Running::short` meets its contract, by the law of a piece that leaves the block open.
use Rattle.sha256.proofs.Pieces.{within}
use Rattle.sha256.proofs.hash.Running.short.Goals as goal

pub returns : goal.returns
returns c m e = rw c.filled-tail.ensures (within m c.args.s.now e c.requires c.advanced-len.ensures)
