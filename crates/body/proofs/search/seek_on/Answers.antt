-- `body::search::seek_on` meets its contract: the loop keeps that with the fields that are left it comes to what it comes to from where it began (Hunts), and the place grows at each turn.
use mathlib.Core.Path.{sym, ap, ◌∙◌}
use native.Mathlib.Omega.{arith}
use Rattle.std.proofs.Common.{Ok, rules}
use Rattle.fields.proofs.Outcomes.{forward, data_inside}
use Rattle.body.proofs.Along.{none_at_end, none_refused}
use Rattle.body.proofs.Hunt.{hunts_start, hunts_else, hunts_inside, hunts_found, hunts_next}
use Rattle.body.proofs.search.seek_on.Goals as goal

pub loop-field-init : goal.loop-field-init
loop-field-init c = let g = c.args in hunts_start g.body.now g.uuid.low g.uuid.high g.from g.so_far (c.requires.few, c.requires.small)

pub overflow_add-start : goal.overflow_add-start
overflow_add-start c =
    let took = sym c.in-Ok-Some.ensures ∙ ap Ok c.in-Ok-Some.field-0-is in
    omega (arith, data_inside c.args.body.now c.loop-field.c _ took)

pub overflow_add-end : goal.overflow_add-end
overflow_add-end c =
    let took = sym c.in-Ok-Some.ensures ∙ ap Ok c.in-Ok-Some.field-0-is in
    omega (arith, data_inside c.args.body.now c.loop-field.c _ took)

pub slice_bounds-is_match-end : goal.slice_bounds-is_match-end
slice_bounds-is_match-end c =
    let took = sym c.in-Ok-Some.ensures ∙ ap Ok c.in-Ok-Some.field-0-is in
    omega (arith, data_inside c.args.body.now c.loop-field.c _ took)

pub overflow_add-result : goal.overflow_add-result
overflow_add-result c =
    let g = c.args in
    let at = c.loop-field in
    let took = sym c.in-Ok-Some.ensures ∙ ap Ok c.in-Ok-Some.field-0-is in
    omega (arith, hunts_inside g.body.now g.uuid.low g.uuid.high _ at.c at.x at.invariant _ took)

pub returns-then-is_match : goal.returns-then-is_match
returns-then-is_match c =
    let g = c.args in
    let at = c.loop-field in
    let took = sym c.in-Ok-Some.ensures ∙ ap Ok c.in-Ok-Some.field-0-is in
    hunts_found g.body.now g.uuid.low g.uuid.high _ at.c at.x at.invariant _ took _ c.is_match.ensures c.if-is_match.true

pub visit-x-requires-clause-small : goal.visit-x-requires-clause-small
visit-x-requires-clause-small c =
    let g = c.args in
    let at = c.loop-field in
    let took = sym c.in-Ok-Some.ensures ∙ ap Ok c.in-Ok-Some.field-0-is in
    omega (arith, hunts_inside g.body.now g.uuid.low g.uuid.high _ at.c at.x at.invariant _ took)

pub loop-field-smaller : goal.loop-field-smaller
loop-field-smaller c =
    let took = sym c.in-Ok-Some.ensures ∙ ap Ok c.in-Ok-Some.field-0-is in
    omega (arith, forward c.args.body.now c.loop-field.c _ took)

pub loop-field-preserved : goal.loop-field-preserved
loop-field-preserved c =
    let g = c.args in
    let at = c.loop-field in
    let took = sym c.in-Ok-Some.ensures ∙ ap Ok c.in-Ok-Some.field-0-is in
    hunts_next g.body.now g.uuid.low g.uuid.high _ at.c at.x at.invariant _ took _ c.is_match.ensures c.if-is_match.false _ c.visit-x.ensures

pub returns-in_default : goal.returns-in_default
returns-in_default c =
    let g = c.args in
    let at = c.loop-field in
    hunts_else g.body.now g.uuid.low g.uuid.high _ at.c at.x at.invariant (none_at_end g.body.now at.c (sym c.step.ensures ∙ c.in_default.is ∙ ap Ok (search rules)))

pub returns-in_default-2 : goal.returns-in_default-2
returns-in_default-2 c =
    let g = c.args in
    let at = c.loop-field in
    hunts_else g.body.now g.uuid.low g.uuid.high _ at.c at.x at.invariant (none_refused g.body.now at.c _ (sym c.step.ensures ∙ c.in_default.is))
