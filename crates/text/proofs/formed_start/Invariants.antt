-- `text::formed_start` meets its contract: the loop keeps where the run stands (Runs).
use Rattle.text.proofs.Bytewise.{Runs}
use Rattle.text.proofs.formed_start.Given as goal

abbrev pub invariant-loop-i : goal.invariant-loop-i
invariant-loop-i l = Runs l.s l.u l.n l.i
