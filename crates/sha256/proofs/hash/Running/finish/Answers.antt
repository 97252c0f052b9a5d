-- `sha256::hash::Running::finish` meets its contract, by the law of the padding.
use Rattle.std.proofs.Common.{◌∙◌}
use Rattle.words.proofs.Conversions.{to_be_wide}
use Rattle.sha256.proofs.Padding.{marks, ended}
use Rattle.sha256.proofs.hash.Running.finish.Goals as goal

pub slice_bounds-take_in-end : goal.slice_bounds-take_in-end
slice_bounds-take_in-end c = marks c.args.self.len

pub returns : goal.returns
returns c m e = ended m c.to_be_bytes-l.result e (c.to_be_bytes-l.ensures ∙ to_be_wide _) c.take_in.ensures c.take_in-2.ensures
