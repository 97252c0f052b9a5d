-- `replay::whole` meets its contract: by its two passes, or the first one and the sweep (AllOrNone).
use native.Mathlib.Omega.{arith}
use Rattle.words.proofs.ByteLaws.{bytes_of}
use Rattle.replay.proofs.AllOrNone.{all_owned, whole_accepted, whole_refused}
use Rattle.replay.proofs.whole.Goals as goal

pub enter-requires : goal.enter-requires
enter-requires c =
    all_owned c.args.state.now c.args.trace.now c.requires (bytes_of c.args.trace.now (λ i. omega (arith, c.type_inv.trace i))) _ c.in-Ok.ensures

pub returns-in-Ok : goal.returns-in-Ok
returns-in-Ok c =
    whole_accepted c.args.state.now c.args.trace.now c.requires (bytes_of c.args.trace.now (λ i. omega (arith, c.type_inv.trace i))) _ c.in-Ok.ensures _ c.enter.ensures

pub returns-in-Err : goal.returns-in-Err
returns-in-Err c =
    whole_refused c.args.state.now c.args.trace.now c.requires (bytes_of c.args.trace.now (λ i. omega (arith, c.type_inv.trace i))) _ _ c.in-Err.ensures _ c.sweep.ensures
