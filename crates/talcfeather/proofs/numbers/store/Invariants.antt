-- `talcfeather::numbers::store` meets its contract. The invariant of its loop: the first i numbers are stored.
use Rattle.talcfeather.proofs.InBytes.{Stored}
use Rattle.talcfeather.proofs.numbers.store.Given as goal

abbrev pub invariant-loop-i : goal.invariant-loop-i
invariant-loop-i l = Stored l.numbers l.initial.memory l.i l.memory
