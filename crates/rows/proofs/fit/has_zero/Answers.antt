-- `rows::fit::has_zero` meets its contract: std's `contains` asks each byte, as the definition does.
use mathlib.Core.Path.{◌∙◌}
use Rattle.rows.proofs.Zero.{some_zero}
use Rattle.rows.proofs.fit.has_zero.Goals as goal

pub returns : goal.returns
returns c = c.contains.ensures.value ∙ some_zero c.args.d.now
