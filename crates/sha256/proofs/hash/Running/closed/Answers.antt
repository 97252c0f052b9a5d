-- `sha256::hash::Running::closed` meets its contract, by the law of a piece that ends the block.
use Rattle.std.proofs.Common.{List, ℕ, ap, ◌∙◌, arith}
use Rattle.sha256.specs.Sha256.{words_of, compress_of}
use Rattle.sha256.proofs.Pieces.{finishes}
use Rattle.sha256.proofs.hash.Running.closed.Goals as goal

pub returns : goal.returns
returns c = (
  omega arith,
  λ m e. finishes m c.args.s.now e c.requires c.advanced-len.ensures
      (c.fold-v.ensures ∙ ap (λ (b : List ℕ). compress_of c.args.self.v (words_of 16 b)) c.filled.ensures),
)
