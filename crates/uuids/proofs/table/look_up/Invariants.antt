-- `uuids::table::look_up` meets its contract: the loop keeps that all slots before, from the start on, are another's (Seen).
use Rattle.uuids.specs.Table.{id_at}
use Rattle.uuids.proofs.Members.{Seen}
use Rattle.uuids.proofs.table.look_up.Given as goal

abbrev pub invariant-loop-i : goal.invariant-loop-i
invariant-loop-i l = Seen l.s l.base l.slots (id_at l.s l.p) l.i
