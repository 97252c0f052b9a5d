-- `sha256::compression::sum` meets its contract, word by word.
use Rattle.std.proofs.Common.{ℕ, slice_index, rules}
use Rattle.std.proofs.lemmas.List.FromFn.{fill_by_all}
use Rattle.sha256.specs.Sha256.{plus, sum_of}
use Rattle.sha256.proofs.compression.sum.Goals as goal

pub returns : goal.returns
unfolding sum_of
returns c =
    fill_by_all (λ (k : ℕ). plus (slice_index c.args.x k) (slice_index c.args.y k)) c.loop-i.z 8 0 c.loop-i.invariant.0 (search rules)
