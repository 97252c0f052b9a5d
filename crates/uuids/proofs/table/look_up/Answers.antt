-- `uuids::table::look_up` meets its contract: the loop keeps that all slots before, from the start on, are another's (Seen).
use mathlib.Core.Path.{sym, ◌∙◌}
use native.Mathlib.Omega.{arith}
use Rattle.uuids.specs.Table.{id_at}
use Rattle.uuids.proofs.Members.{seen_free}
use Rattle.uuids.proofs.table.look_up.Goals as goal

pub returns-then-v-eq0 : goal.returns-then-v-eq0
returns-then-v-eq0 c =
    let a = c.args in
    seen_free a.s.now a.base a.slots.now (id_at a.s.now a.p) c.loop-i.i c.loop-i.invariant (omega arith) (sym c.from-v.ensures ∙ c.if-v-eq0.true)
