-- `logins::check` meets its contract: what the records ahead give is what the body gives (Checks).
use native.Mathlib.Omega.{arith}
use Rattle.logins.proofs.Checks.{checks_start, checks_stop, checks_found, checks_next}
use Rattle.logins.proofs.check.Goals as goal

pub loop-number-init : goal.loop-number-init
loop-number-init c = checks_start c.args.body.now _ c.requires.formed c.record_at-next.ensures

pub returns-in-Some : goal.returns-in-Some
returns-in-Some c =
    let l = c.loop-number in
    checks_found c.args.body.now l.next l.number l.invariant (omega (arith, c.requires.all)) _ c.record_at-r.ensures _ c.fault_in.ensures _ c.in-Some.is

pub loop-number-preserved : goal.loop-number-preserved
loop-number-preserved c =
    let l = c.loop-number in
    checks_next c.args.body.now l.next l.number l.invariant (omega (arith, c.requires.all)) _ c.record_at-r.ensures _ c.fault_in.ensures c.in_default.is

pub returns : goal.returns
returns c = let l = c.loop-number in checks_stop c.args.body.now l.next l.number l.invariant (omega (arith, c.requires.all))
