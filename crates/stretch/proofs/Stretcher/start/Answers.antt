-- `stretch::Stretcher::start` meets its contract: the blocks of the padded message, one after the other, and no more.
use Rattle.std.proofs.Common.{◌≡◌, ◌++◌, length, ap, ◌∙◌, arith, rules}
use Rattle.sha256.specs.Sha256.{padded, words_of}
use Rattle.stretch.specs.Stretch.{compressions}
use Rattle.stretch.proofs.FirstBlocks.{words_are, taken, all_taken, room_left}
use Rattle.stretch.proofs.Stretcher.start.Goals as goal

pub loop-q-init : goal.loop-q-init
unfolding compressions
loop-q-init c = cc

pub loop-q-preserved : goal.loop-q-preserved
loop-q-preserved c =
    let p = c.args.passphrase.now in
    let s = c.args.salt.now in
    let q = c.loop-q.q in
    let l : length s ≡ 32 = search rules in
    let b = ap (words_of 16) c.block.ensures ∙ words_are (padded (p ++ s)) q (room_left p s q (omega arith)) in
    taken 0 (padded (p ++ s)) q c.loop-q.invariant b c.compressed-s.ensures

pub returns : goal.returns
returns c =
    let l : length c.args.salt.now ≡ 32 = search rules in
    c.loop-q.invariant ∙ all_taken c.args.passphrase.now c.args.salt.now c.loop-q.q (omega arith)
