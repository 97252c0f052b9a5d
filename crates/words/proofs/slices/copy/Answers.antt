-- `words::slices::copy` meets its contract: each turn copies one byte more, and the last turn is where the shorter of the two ends.
use mathlib.Core.Path.{sym, ap, ◌∙◌}
use native.Mathlib.Numerals.{add-one}
use native.Mathlib.Omega.{arith}
use native.Mathlib.Nat.{zero-add}
use lib.ListN.{length, set, get_or}
use lib.Seq.{paste, paste-zero, paste-suc}
use Rattle.std.proofs.Math.Nat.{min-le_left, min-le_right}
use Rattle.words.proofs.SliceLaws.{copied_most}
use Rattle.words.proofs.slices.copy.Goals as goal

pub loop-i-init : goal.loop-i-init
loop-i-init c = paste-zero c.args.to.now 0 c.args.from.now

pub loop-i-preserved : goal.loop-i-preserved
loop-i-preserved c =
    let d = c.args.to.now in
    let s = c.args.from.now in
    let i = c.loop-i.i in
    let m = c.min-i-end.ensures in
    let t = c.loop-i-test.true in
    ap (λ l. set l i (get_or s i 0)) c.loop-i.invariant
    ∙ ap (λ k. set (paste d 0 s i) k (get_or s i 0)) (sym (zero-add i))
    ∙ paste-suc d 0 s i 0 (omega (arith, m, t, min-le_left (length d) (length s))) (omega (arith, m, t, min-le_right (length d) (length s)))
    ∙ ap (paste d 0 s) (sym (add-one i))

pub returns : goal.returns
returns c =
    c.loop-i.invariant
    ∙ copied_most c.args.to.now c.args.from.now c.loop-i.i (omega (arith, c.min-i-end.ensures, c.loop-i-test.false, c.loop-i.auto.i-end))
