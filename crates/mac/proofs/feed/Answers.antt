-- `mac::feed` meets its contract: the laws of the loop (Fed), and the place grows at each turn.
use mathlib.Core.Path.{sym, ap, ◌∙◌}
use Rattle.std.proofs.Common.{Ok, rules}
use Rattle.body.proofs.Along.{none_at_end, none_refused}
use Rattle.mac.proofs.Feeding.{fed_start, fed_next, fed_end}
use Rattle.mac.proofs.feed.Goals as goal

pub loop-field-init : goal.loop-field-init
loop-field-init c = fed_start c.args.body.now c.args.st.now _ c.start-c.ensures

pub loop-field-preserved : goal.loop-field-preserved
loop-field-preserved c =
    let at = c.loop-field in
    let took = sym c.in-Ok-Some.ensures ∙ ap Ok c.in-Ok-Some.field-0-is in
    fed_next c.args.body.now c.args.st.now at.c at.st at.invariant _ took c.absorb.ensures

pub returns-in_default : goal.returns-in_default
returns-in_default c =
    let body = c.args.body.now in
    let at = c.loop-field in
    fed_end body c.args.st.now at.c at.st at.invariant (none_at_end body at.c (sym c.step.ensures ∙ c.in_default.is ∙ ap Ok (search rules)))

pub returns-in_default-2 : goal.returns-in_default-2
returns-in_default-2 c =
    let body = c.args.body.now in
    let at = c.loop-field in
    fed_end body c.args.st.now at.c at.st at.invariant (none_refused body at.c _ (sym c.step.ensures ∙ c.in_default.is))
