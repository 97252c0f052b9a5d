-- `body::records::record_at` meets its contract: the loop keeps what the fields so far and those that are left give (Keeps), and the place grows at each turn.
use mathlib.Core.Path.{sym, ap, ◌∙◌}
use native.Mathlib.Omega.{arith}
use borrow.Author.Tests.{ne_eqb}
use Rattle.std.proofs.Common.{Ok, rules}
use Rattle.fields.proofs.Outcomes.{forward, data_inside}
use Rattle.body.proofs.Along.{none_at_end, none_refused}
use Rattle.body.proofs.Keeps.{keeps_start, keeps_else, keeps_end, keeps_took}
use Rattle.body.proofs.records.record_at.Goals as goal

pub loop-field-init : goal.loop-field-init
loop-field-init c = keeps_start c.args.body.now c.args.at c.default-firsts.result c.default-firsts.ensures

pub overflow_add-spot : goal.overflow_add-spot
overflow_add-spot c =
    let took = sym c.in-Ok-Some.ensures ∙ ap Ok c.in-Ok-Some.field-0-is in
    omega (arith, data_inside c.args.body.now c.loop-field.c _ took)

pub overflow_add-n : goal.overflow_add-n
overflow_add-n c =
    let took = sym c.in-Ok-Some.ensures ∙ ap Ok c.in-Ok-Some.field-0-is in
    omega (arith, c.loop-field.invariant.few, forward c.args.body.now c.loop-field.c _ took)

pub loop-field-smaller : goal.loop-field-smaller
loop-field-smaller c =
    let took = sym c.in-Ok-Some.ensures ∙ ap Ok c.in-Ok-Some.field-0-is in
    omega (arith, forward c.args.body.now c.loop-field.c _ took)

pub loop-field-preserved : goal.loop-field-preserved
loop-field-preserved c =
    let g = c.args in
    let at = c.loop-field in
    let took = sym c.in-Ok-Some.ensures ∙ ap Ok c.in-Ok-Some.field-0-is in
    keeps_took g.body.now g.at at.c at.firsts at.n at.invariant _ took (ne_eqb _ _ c.if-field.false) _ c.with-firsts.ensures

pub returns-then-field : goal.returns-then-field
returns-then-field c =
    let g = c.args in
    let at = c.loop-field in
    let took = sym c.in-Ok-Some.ensures ∙ ap Ok c.in-Ok-Some.field-0-is in
    keeps_end g.body.now g.at at.c at.firsts at.n at.invariant _ took c.if-field.true

pub returns-in_default : goal.returns-in_default
returns-in_default c =
    let g = c.args in
    let at = c.loop-field in
    keeps_else g.body.now g.at at.c at.firsts at.n at.invariant (none_at_end g.body.now at.c (sym c.step.ensures ∙ c.in_default.is ∙ ap Ok (search rules)))

pub returns-in_default-2 : goal.returns-in_default-2
returns-in_default-2 c =
    let g = c.args in
    let at = c.loop-field in
    keeps_else g.body.now g.at at.c at.firsts at.n at.invariant (none_refused g.body.now at.c _ (sym c.step.ensures ∙ c.in_default.is))
