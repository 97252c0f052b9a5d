-- `twofish::Schedule::encrypt` meets its contract: after i turns the loop holds the definition's first 2 i rounds.
use Rattle.twofish.specs.Cipher.{rounds, encrypt}
use Rattle.words.specs.Table.{at}
use Rattle.twofish.specs.Tabled.{tabled_g, tabled_encrypt}
use Rattle.twofish.proofs.Steps.{two_more}
use mathlib.Core.Path.{◌≡◌, refl}
use Prim.Native.Nat.{◌*◌}
use native.Mathlib.Omega.{arith}
use Rattle.twofish.proofs.Schedule.encrypt.Goals as goal

pub loop-i-init : goal.loop-i-init
unfolding rounds
loop-i-init c = refl

pub loop-i-preserved : goal.loop-i-preserved
loop-i-preserved c =
    let s = c.args.self.now in
    let l = c.loop-i in
    two_more (tabled_g s.g) (at s.k) l.i _ l.invariant c.round-z.ensures c.round-y.ensures

pub returns : goal.returns
unfolding tabled_encrypt encrypt
returns c =
    let e : 2 * c.loop-i.i ≡ 16 = omega arith in
    cc e
