-- `logins::fill` meets its contract: the rows so far and those of the records ahead are the table (Fills).
use Prim.Native.Nat.{◌*◌}
use mathlib.Core.Path.{◌∙◌}
use native.Mathlib.Nat.{add-sub_cancel_left}
use native.Mathlib.Omega.{arith}
use Rattle.logins.proofs.Fills.{fills_start, fills_stop, fills_next}
use Rattle.logins.proofs.fill.Goals as goal

pub loop-number-init : goal.loop-number-init
loop-number-init c = fills_start c.args.body.now c.args.time c.args.table.now _ c.requires.formed c.record_at-next.ensures

pub loop-number-preserved : goal.loop-number-preserved
loop-number-preserved c =
    let l = c.loop-number in
    fills_next c.args.body.now c.args.time c.args.table.now l.next l.number l.table l.invariant _ (omega (arith, c.requires.all)) c.record_at-r.ensures _ _ (c.copy_from_slice.ensures.after ∙ c.row_of.ensures)
    (add-sub_cancel_left (256 * l.number) 256)

pub returns : goal.returns
returns c =
    let l = c.loop-number in
    fills_stop c.args.body.now c.args.time c.args.table.now l.next l.number l.table l.invariant (omega (arith, c.requires.all)) (omega (arith, c.requires.all))
