-- `logins::fill` meets its contract: the rows so far and those of the records ahead are the table (Fills).
use Rattle.logins.proofs.Fills.{Fills}
use Rattle.logins.proofs.fill.Given as goal

abbrev pub invariant-loop-number : goal.invariant-loop-number
invariant-loop-number l = Fills l.body l.time l.initial.table l.next l.number l.table
