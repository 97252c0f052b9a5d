-- `words::slices::same` meets its contract: std's comparison of slices goes along both, as the definition does.
use mathlib.Core.Path.{◌∙◌}
use Rattle.words.proofs.SliceLaws.{same_pointwise}
use Rattle.words.proofs.slices.same.Goals as goal

pub returns : goal.returns
returns c = c.eq.ensures ∙ same_pointwise c.args.a.now c.args.b.now
