-- `chain::cbc_encrypt` meets its contract: the text is copied, and `memory::encrypt` in the mode CBC goes over the copy.
use Rattle.chain.specs.Blocks.{mode_e}
use Rattle.std.proofs.Common.{ℕ, List, ◌++◌, length, take, drop, ap}
use mathlib.Core.Path.{◌∙◌}
use native.Mathlib.Omega.{arith}
use lib.Seq.{length-take-le}
use Rattle.words.proofs.SliceLaws.{copied_over}
use Rattle.chain.specs.Modes.{cbc_e}
use Rattle.chain.specs.Twofish.{twofish_cipher}
use Rattle.chain.proofs.MemoryLaws.{refused_into, too_short, all_into}
use Rattle.chain.proofs.cbc_encrypt.Goals as goal
use Rattle.chain.proofs.cbc_encrypt.Goals.{then-n-ne0-via-then-n-ne0, then-n-ne0-via-else-n-ne0+then-to-n}

pub returns-then-n-ne0 : goal.returns-then-n-ne0
returns-then-n-ne0 c =
    let a = c.args in
    let e = cbc_e twofish_cipher a.key.now in
    elim c.then-n-ne0.branch [
      | then-n-ne0-via-then-n-ne0 w ↦ refused_into e a.iv.now a.from.now a.to.now w.if-n-ne0.true
      | then-n-ne0-via-else-n-ne0+then-to-n w ↦ too_short e a.iv.now a.from.now a.to.now w.if-to-n.true
    ]

pub returns : goal.returns
unfolding mode_e cbc_e
returns c =
    let a = c.args in
    all_into (cbc_e twofish_cipher a.key.now) a.iv.now a.from.now a.to.now c.if-n-ne0.false c.if-to-n.false
    (ap (λ (x : List ℕ). x ++ drop (length a.from.now) a.to.now)
    (c.copy.ensures ∙ copied_over (take (length a.from.now) a.to.now) a.from.now
    (length-take-le (length a.from.now) a.to.now (omega (arith, c.if-to-n.false)))))
    c.encrypt.ensures
