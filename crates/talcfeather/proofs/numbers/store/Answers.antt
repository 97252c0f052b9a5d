-- `talcfeather::numbers::store` meets its contract: each number is laid right behind those before it.
use mathlib.Core.Path.{◌∙◌}
use native.Mathlib.Omega.{arith}
use lib.ListN.{get_or}
use Rattle.words.proofs.Conversions.{to_le_wide}
use Rattle.talcfeather.proofs.InBytes.{stored_none, stored_next, stored_all}
use Rattle.talcfeather.proofs.numbers.store.Goals as goal

pub loop-i-init : goal.loop-i-init
loop-i-init c = stored_none c.args.numbers.now c.args.memory.now

pub loop-i-preserved : goal.loop-i-preserved
loop-i-preserved c =
    let l = c.args.numbers.now in
    stored_next l c.args.memory.now c.loop-i.i c.loop-i-test.true c.loop-i.invariant
    (c.copy_from_slice.ensures.after ∙ c.to_le_bytes.ensures ∙ to_le_wide (get_or l c.loop-i.i 0))

pub returns : goal.returns
returns c = stored_all c.args.numbers.now c.args.memory.now c.loop-i.i (omega arith) (omega arith) c.loop-i.invariant
