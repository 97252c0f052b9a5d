-- `body::sections` meets its contract: the loop keeps where the pass stands (Stands), and the place grows at each turn.
use mathlib.Core.Path.{sym, ap, ◌∙◌}
use native.Mathlib.Omega.{arith}
use Rattle.std.proofs.Common.{Ok}
use Rattle.std.proofs.lemmas.Result.{err_from_is_err_and}
use Rattle.fields.proofs.Outcomes.{forward, end_only}
use Rattle.body.proofs.Stands.{stands_start, stands_refused, stands_took, stands_ended}
use Rattle.body.proofs.sections.Goals as goal

pub loop-field-init : goal.loop-field-init
loop-field-init c = rw (c.start-x.ensures, c.start-c.ensures) (stands_start c.args.body.now)

pub returns-in_err-field : goal.returns-in_err-field
returns-in_err-field c =
    let at = c.loop-field in
    let p = err_from_is_err_and c.from_residual.result c.from_residual.ensures.1 in
    rw p.1 (stands_refused c.args.body.now at.c at.x at.invariant _ (sym c.in_err-field.ensures))

pub loop-field-smaller : goal.loop-field-smaller
loop-field-smaller c = omega (arith, forward c.args.body.now c.loop-field.c _ (sym c.in_ok-field.ensures ∙ ap Ok c.in-Some.is))

pub loop-field-preserved : goal.loop-field-preserved
loop-field-preserved c =
    let at = c.loop-field in
    stands_took c.args.body.now at.c at.x at.invariant _ (sym c.in_ok-field.ensures ∙ ap Ok c.in-Some.is) _ c.after-x.ensures

pub returns : goal.returns
returns c =
    let s = c.args.body.now in
    let at = c.loop-field in
    c.finish.ensures ∙ stands_ended s at.c at.x at.invariant (end_only s at.c (sym c.in_ok-field.ensures ∙ ap Ok c.in_default.is))
