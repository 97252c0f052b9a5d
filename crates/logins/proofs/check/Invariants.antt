-- `logins::check` meets its contract: what the records ahead give is what the body gives (Checks).
use Rattle.logins.proofs.Checks.{Checks}
use Rattle.logins.proofs.check.Given as goal

abbrev pub invariant-loop-number : goal.invariant-loop-number
invariant-loop-number l = Checks l.body l.next l.number
