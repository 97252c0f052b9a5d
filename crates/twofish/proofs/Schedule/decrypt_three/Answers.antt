-- `twofish::Schedule::decrypt_three` meets its contract: what is left of the 16 rounds back of each block, with 2 i still to go, ends in the same blocks.
use Rattle.twofish.specs.Cipher.{whiten, swap, unround, unrounds, decrypt}
use Rattle.words.specs.Table.{at}
use Rattle.twofish.specs.Tabled.{tabled_g, tabled_decrypt}
use Rattle.twofish.specs.Beside.{threefold}
use Rattle.twofish.proofs.Steps.{two_less, none_left, threefold_made}
use mathlib.Core.Path.{refl, ap, ◌∙◌}
use Prim.Native.Nat.{◌+◌, ◌-◌, ◌*◌}
use native.Mathlib.Omega.{arith}
use borrow.Author.Rules.{rules}
use Rattle.twofish.proofs.Schedule.decrypt_three.Goals as goal

pub loop-i-preserved : goal.loop-i-preserved
unfolding unrounds
loop-i-preserved c =
    let s = c.args.self.now in
    let l = c.loop-i in
    let g = tabled_g s.g in
    let k = at s.k in
    two_less (λ n. threefold (unrounds g k n)) (λ n. threefold (unround g k n)) (λ n x. refl) l.i-counter l.u
    c.loop-i-test.true
    (threefold_made (unround g k (2 * (l.i-counter - 1) + 1)) l.u (search rules) (search rules) (search rules))
    (threefold_made (unround g k (2 * (l.i-counter - 1))) c.map-v.result (search rules) (search rules) (search rules))
    l.invariant

pub returns : goal.returns
unfolding tabled_decrypt decrypt unrounds
returns c =
    let s = c.args.self.now in
    let l = c.loop-i in
    let g = tabled_g s.g in
    let k = at s.k in
    threefold_made (whiten k 0) l.u (search rules) (search rules) (search rules)
    ∙ ap (threefold (whiten k 0))
    (none_left (λ n. threefold (unrounds g k n)) (λ x. refl) l.i-counter l.u (omega arith) l.invariant
    ∙ ap (threefold (unrounds g k 16))
    (threefold_made (λ x. swap (whiten k 4 x)) c.args.t (search rules) (search rules) (search rules)))
