-- `replay::pass::enter` meets its contract: the loop keeps that the records so far have gone in (Entering).
use native.Mathlib.Omega.{arith}
use Rattle.replay.proofs.Chunks.{part_in}
use Rattle.replay.proofs.Passing.{entering_start, entering_owned, entering_next, entering_end}
use Rattle.replay.proofs.pass.enter.Goals as goal

pub loop-r-init : goal.loop-r-init
loop-r-init c = entering_start c.args.state.now c.args.trace.now c.requires

pub enter_one-requires : goal.enter_one-requires
enter_one-requires c =
    let r = part_in _ c.loop-r.r-index c.args.trace.now _ c.as_chunks.ensures.front (omega (arith, c.as_chunks.ensures.front_len)) in
    entering_owned c.args.state.now c.args.trace.now _ _ c.loop-r.invariant _ r (omega (arith, c.as_chunks.ensures.front_len))

pub loop-r-preserved : goal.loop-r-preserved
loop-r-preserved c =
    let r = part_in _ c.loop-r.r-index c.args.trace.now _ c.as_chunks.ensures.front (omega (arith, c.as_chunks.ensures.front_len)) in
    entering_next c.args.state.now c.args.trace.now _ _ c.loop-r.invariant _ r _ c.enter_one.ensures

pub returns : goal.returns
returns c = entering_end c.args.state.now c.args.trace.now _ _ c.loop-r.invariant (omega (arith, c.as_chunks.ensures.front_len))
