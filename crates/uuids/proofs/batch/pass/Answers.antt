-- `uuids::batch::pass` meets its contract: the loop keeps what a batch has come to (Passes), and goes on as long as nothing was hit.
use native.Mathlib.Omega.{arith}
use borrow.Author.Rules.{rules}
use Rattle.uuids.proofs.Passes.{passes_over, passes_known, passes_end, passes_by, passes_in}
use Rattle.uuids.proofs.batch.pass.Goals as goal
use Rattle.uuids.proofs.batch.pass.Goals.{then-growing, else-growing}

pub returns-in_default : goal.returns-in_default
returns-in_default c =
    let a = c.args in
    let x = c.loop-n in
    rw x.invariant.1
    (passes_over a.body.now a.base a.number a.limit x.slots x.at x.n x.growing x.next x.members x.invariant.0 c.in_default.ensures)

pub returns-in-Known : goal.returns-in-Known
returns-in-Known c =
    let a = c.args in
    let x = c.loop-n in
    passes_known a.body.now a.base a.number a.limit x.slots x.at x.n x.growing x.next x.members x.invariant.0 _ c.in-Some.ensures c.in-Known.ensures (omega arith)

pub loop-n-preserved : goal.loop-n-preserved
loop-n-preserved c =
    let a = c.args in
    let x = c.loop-n in (
      elim c.if-growing.branch [
        | then-growing w ↦
            rw (w.next-is, w.members-is)
            (passes_in a.body.now a.base a.number a.limit x.slots x.at x.n x.growing x.next x.members x.invariant.0 _ c.in-Some.ensures
            c.look_up-l.result c.look_up-l.ensures (search rules) _ c.take_in-growing.result c.take_in-growing.ensures w.if-growing.true)
        | else-growing w ↦
            rw (w.next-is, w.members-is)
            (passes_by a.body.now a.base a.number a.limit x.slots x.at x.n x.growing x.next x.members x.invariant.0 _ c.in-Some.ensures
            c.look_up-l.result c.look_up-l.ensures (search rules) _ c.take_in-growing.result c.take_in-growing.ensures w.if-growing.false)
      ],
      x.invariant.1,
    )

pub returns-after-loop-n : goal.returns-after-loop-n
returns-after-loop-n c =
    let a = c.args in
    let x = c.loop-n in
    rw x.invariant.1
    (passes_end a.body.now a.base a.number a.limit x.slots x.at x.n x.growing x.next x.members x.invariant.0 (omega arith))
