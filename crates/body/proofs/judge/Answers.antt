-- `body::judge` meets its contract: where the fields pass, the UUIDs decide.
use Rattle.std.proofs.lemmas.Result.{err_from_is_err_and}
use Rattle.body.proofs.Judging.{judged_is}
use Rattle.body.proofs.judge.Goals as goal

pub returns-in_err-counts : goal.returns-in_err-counts
returns-in_err-counts c =
    let p = err_from_is_err_and c.from_residual.result c.from_residual.ensures.1 in
    rw (p.1, ← judged_is c.args.body.now, ← c.judge_fields.ensures, c.in_err-counts.was)

pub returns-then-uuids_differ : goal.returns-then-uuids_differ
returns-then-uuids_differ c = rw (← judged_is c.args.body.now, ← c.judge_fields.ensures, c.in_ok-counts.was, ← c.uuids_differ.ensures, c.if-uuids_differ.true)

pub returns-else-uuids_differ : goal.returns-else-uuids_differ
returns-else-uuids_differ c = rw (← judged_is c.args.body.now, ← c.judge_fields.ensures, c.in_ok-counts.was, ← c.uuids_differ.ensures, c.if-uuids_differ.false)
