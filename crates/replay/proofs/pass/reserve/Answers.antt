-- `replay::pass::reserve` meets its contract: the loop keeps that the records so far have places (Reserving).
use native.Mathlib.Omega.{arith}
use mathlib.Core.Path.{sym, ◌∙◌}
use borrow.Author.Tests.{eqb-true, eqb-false}
use Rattle.replay.proofs.Chunks.{part_in}
use Rattle.replay.proofs.Passing.{reserving_start, reserving_next, reserving_stop, reserving_end, reserving_cut}
use Rattle.replay.proofs.pass.reserve.Goals as goal

pub loop-n-init : goal.loop-n-init
loop-n-init c = reserving_start c.args.state.now c.args.trace.now

pub returns-then-not-reserve_one : goal.returns-then-not-reserve_one
returns-then-not-reserve_one c =
    let r = part_in _ c.loop-n.n c.args.trace.now _ c.as_chunks.ensures.front (omega (arith, c.as_chunks.ensures.front_len)) in
    let e = c.reserve_one.ensures in
    reserving_stop c.args.state.now c.args.trace.now _ _ c.loop-n.invariant _ _ _ r e.answer e.memory (omega (arith, c.as_chunks.ensures.front_len)) c.if-not-reserve_one.true

pub loop-n-preserved : goal.loop-n-preserved
loop-n-preserved c =
    let r = part_in _ c.loop-n.n c.args.trace.now _ c.as_chunks.ensures.front (omega (arith, c.as_chunks.ensures.front_len)) in
    let e = c.reserve_one.ensures in
    reserving_next c.args.state.now c.args.trace.now _ _ c.loop-n.invariant _ _ _ r e.answer e.memory c.if-not-reserve_one.false

pub returns-then-is_empty : goal.returns-then-is_empty
returns-then-is_empty c =
    let z = eqb-true _ 0 (sym c.is_empty.ensures ∙ c.if-is_empty.true) in
    reserving_end c.args.state.now c.args.trace.now _ _ c.loop-n.invariant (omega (arith, c.as_chunks.ensures.front_len)) (omega (arith, z, c.as_chunks.ensures.back_len, c.as_chunks.ensures.front_len))

pub returns-else-is_empty : goal.returns-else-is_empty
returns-else-is_empty c =
    let z = eqb-false _ 0 (sym c.is_empty.ensures ∙ c.if-is_empty.false) in
    reserving_cut c.args.state.now c.args.trace.now _ _ c.loop-n.invariant (omega (arith, c.as_chunks.ensures.front_len)) _ (omega (arith, c.as_chunks.ensures.front_len))
    (λ e. z (omega (arith, e, c.as_chunks.ensures.back_len)))
