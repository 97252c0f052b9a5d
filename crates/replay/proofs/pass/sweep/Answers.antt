-- `replay::pass::sweep` meets its contract: the loop keeps that the entries so far are swept.
use mathlib.Core.Path.{refl, ap, ◌∙◌}
use native.Mathlib.Numerals.{add-one}
use Rattle.replay.specs.State.{entry_at, put}
use Rattle.replay.specs.Waiting.{swept_at, swept_to}
use Rattle.replay.proofs.pass.sweep.Goals as goal

pub loop-i-init : goal.loop-i-init
unfolding swept_to
loop-i-init c = refl

pub loop-i-preserved : goal.loop-i-preserved
unfolding swept_to
loop-i-preserved c = c.sweep_one.ensures ∙ ap (λ x. put x c.loop-i.i (swept_at (entry_at x c.loop-i.i))) c.loop-i.invariant ∙ rw add-one
