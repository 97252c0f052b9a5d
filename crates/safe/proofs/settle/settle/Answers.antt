-- `safe::settle::settle` meets its contract: the verdict on the body that it is handed decides, and the counts are handed on.
use Rattle.safe.proofs.Verdicts.{settled_no, settled_yes}
use Rattle.safe.proofs.settle.settle.Goals as goal

pub returns-in-Ok : goal.returns-in-Ok
returns-in-Ok c =
    let a = c.args in
    settled_yes a.from a.mac.now a.compressions a.body.now c.judged.ensures _ c.in-Ok.is

pub returns-in-Err : goal.returns-in-Err
returns-in-Err c =
    let a = c.args in
    settled_no a.from a.mac.now a.compressions a.body.now c.judged.ensures _ c.in-Err.is c.refused.ensures c.zero.ensures
