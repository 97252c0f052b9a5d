-- `sha256::compression::extend` meets its contract, by the laws of one word more.
use Rattle.std.proofs.Common.{take, refl, arith, rules}
use Rattle.sha256.proofs.Schedule.{one_more, all_words}
use Rattle.sha256.proofs.compression.extend.Goals as goal

pub loop-t-init : goal.loop-t-init
loop-t-init c = (search rules, refl)

pub loop-t-preserved : goal.loop-t-preserved
loop-t-preserved c =
    let l = c.loop-t in
    (search rules, one_more l.w (take 16 c.args.w.now) l.t _ (omega arith) (omega arith) l.invariant.0 l.invariant.1 cc)

pub returns : goal.returns
returns c =
    let l = c.loop-t in
    all_words l.w (take 16 c.args.w.now) l.t (omega arith) l.invariant.0 l.invariant.1
