-- `twofish::Schedule::decrypt` meets its contract: what is left of the definition's 16 rounds back, with 2 i still to go, ends in the same block.
use Rattle.twofish.specs.Cipher.{unround, unrounds, decrypt}
use Rattle.words.specs.Table.{at}
use Rattle.twofish.specs.Tabled.{tabled_g, tabled_decrypt}
use Rattle.twofish.proofs.Steps.{two_less, none_left}
use mathlib.Core.Path.{refl}
use native.Mathlib.Omega.{arith}
use Rattle.twofish.proofs.Schedule.decrypt.Goals as goal

pub loop-i-preserved : goal.loop-i-preserved
unfolding unrounds
loop-i-preserved c =
    let s = c.args.self.now in
    let l = c.loop-i in
    let g = tabled_g s.g in
    let k = at s.k in
    two_less (unrounds g k) (unround g k) (λ n x. refl) l.i l.y c.loop-i-test.true c.unround-z.ensures c.unround-y.ensures l.invariant

pub returns : goal.returns
unfolding tabled_decrypt decrypt unrounds
returns c =
    let s = c.args.self.now in
    let l = c.loop-i in
    cc (none_left (unrounds (tabled_g s.g) (at s.k)) (λ x. refl) l.i l.y (omega arith) l.invariant)
