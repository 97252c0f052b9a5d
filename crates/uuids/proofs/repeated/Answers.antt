-- `uuids::repeated` meets its contract: the loop keeps what the batches so far have come to (Batches), and each batch has a member.
use native.Mathlib.Omega.{arith}
use Rattle.uuids.proofs.Batches.{batches_over, batches_end, batches_next, batches_room}
use Rattle.uuids.proofs.repeated.Goals as goal

pub overflow_add-number : goal.overflow_add-number
overflow_add-number c =
    let x = c.loop-number in
    omega (arith, batches_room c.args.body.now c.args.from x.at x.number x.best x.invariant _ c.in-Some.ensures _ c.unwrap_or-limit.ensures c.batch-x.result c.batch-x.ensures)

pub loop-number-smaller : goal.loop-number-smaller
loop-number-smaller c =
    let x = c.loop-number in
    omega (arith, batches_room c.args.body.now c.args.from x.at x.number x.best x.invariant _ c.in-Some.ensures _ c.unwrap_or-limit.ensures c.batch-x.result c.batch-x.ensures, c.batch-x.ensures.some)

pub loop-number-preserved : goal.loop-number-preserved
loop-number-preserved c =
    let x = c.loop-number in
    rw c.or-best.ensures (batches_next c.args.body.now c.args.from x.at x.number x.best x.invariant _ c.in-Some.ensures _ c.unwrap_or-limit.ensures c.batch-x.result c.batch-x.ensures)

pub returns-after-loop-number : goal.returns-after-loop-number
returns-after-loop-number c =
    let x = c.loop-number in
    batches_end c.args.body.now c.args.from x.at x.number x.best x.invariant (omega (arith, c.unwrap_or.ensures))

pub returns-in_default : goal.returns-in_default
returns-in_default c =
    let x = c.loop-number in
    batches_over c.args.body.now c.args.from x.at x.number x.best x.invariant c.in_default.ensures
