-- `safe::open::unlocked` meets its contract: what is decrypted into the front of the workspace is settled there.
use mathlib.Core.Path.{◌≡◌, sym, ap, ◌∙◌}
use Prim.Native.Nat.{ℕ, ◌-◌}
use native.Mathlib.Omega.{arith}
use lib.ListN.{length, take, drop, length-drop}
use lib.Seq.{length-take-le, take_all}
use Rattle.file.specs.Layout.{split}
use Rattle.safe.proofs.Verdicts.{unlocked}
use borrow.Author.Rules.{rules}
use Rattle.safe.proofs.open.unlocked.Goals as goal

pub returns : goal.returns
unfolding split
returns c =
    let file = c.args.file.now in
    let n = length file - 200 in
    let ws = c.args.workspace.now in
    let w = c.decrypt-from.new.work in
    let g : length w ≡ length (take n ws) = search rules in
    let lw : length w ≡ n = g ∙ length-take-le n ws c.requires.holds in
    let d = length-drop (length file - 32) file in
    unlocked file c.args.key.now w _ c.args.compressions c.requires c.decrypt-from.ensures lw
    (take_all (length file - (length file - 32)) (drop (length file - 32) file) (omega arith)) c.settle.ensures
    (ap (λ (m : ℕ). drop m ws) (sym lw))
