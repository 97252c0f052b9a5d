-- `safe::refusals::wrong_marker` meets its contract, by the law of the marker in the rest of the file.
use mathlib.Core.Path.{ap, ◌∙◌}
use mathlib.Core.Bool.{not}
use Rattle.safe.proofs.Verdicts.{marker_from}
use Rattle.safe.proofs.refusals.wrong_marker.Goals as goal

pub returns : goal.returns
returns c = c.ne.ensures ∙ ap not (marker_from c.args.file.now c.args.n c.requires c.first_marker.ensures)
