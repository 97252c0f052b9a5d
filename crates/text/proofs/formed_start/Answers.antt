-- `text::formed_start` meets its contract: the loop keeps where the run stands (Runs).
use Rattle.text.proofs.Bytewise.{runs_start, runs_next, runs_end}
use Rattle.text.proofs.formed_start.Goals as goal

pub loop-i-init : goal.loop-i-init
loop-i-init c = runs_start c.args.s.now

pub loop-i-preserved : goal.loop-i-preserved
loop-i-preserved c =
    let at = c.loop-i in
    runs_next c.args.s.now at.u at.n at.i at.invariant _ _ c.loop-i-test.true c.step-u.ensures c.ended-n.ensures

pub returns : goal.returns
returns c =
    let at = c.loop-i in
    runs_end c.args.s.now at.u at.n at.i at.invariant c.loop-i-test.false
