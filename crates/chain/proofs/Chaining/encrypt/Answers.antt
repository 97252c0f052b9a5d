-- `chain::Chaining::encrypt` meets its contract: after j turns the memory has the definition's first j cipher blocks, and then what is left of the text.
use Rattle.std.proofs.Common.{◌≡◌, ℕ, ◌*◌, ◌/◌, List, ◌++◌, length, drop, ◌∙◌, ap₂, arith}
use borrow.Author.Rules.{rules}
use Rattle.words.specs.Numbers.{Bytes}
use Rattle.words.proofs.ByteLaws.{bytes_of}
use Rattle.twofish.specs.Twofish.{block_bytes}
use Rattle.twofish.specs.Tabled.{tabled_encrypt}
use Rattle.twofish.proofs.Rounds.{Words}
use Rattle.chain.specs.Blocks.{on_bytes, mode_e, encrypted_blocks}
use Rattle.chain.proofs.Through.{through_e}
use Rattle.chain.proofs.Turns.{turned_start, turned_end, encrypt_turn}
use Rattle.chain.proofs.Chaining.encrypt.Goals as goal

pub loop-j-init : goal.loop-j-init
loop-j-init c =
    let o = c.well_formed in
    turned_start _ _ _ _ _ (omega arith) (record { fa = omega (arith, o); fb = omega (arith, o); fc = omega (arith, o); fd = omega (arith, o) })

pub loop-j-preserved : goal.loop-j-preserved
loop-j-preserved c =
    let u = c.encrypt_block-prev in
    let fine : Words u.result = record { fa = omega (arith, u.type_inv); fb = omega (arith, u.type_inv); fc = omega (arith, u.type_inv); fd = omega (arith, u.type_inv) } in
    let l = c.loop-j in
    let less = c.loop-j-test.true in
    let a = c.args in
    let bytes : Bytes a.work.now = bytes_of a.work.now (λ i. search rules) in
    encrypt_turn a.self.now.mode _ _ _ a.work.now bytes _ _ l.invariant (omega (arith, less)) (omega arith) (omega (arith, less))
    u.result u.new.b fine u.ensures

pub returns : goal.returns
unfolding encrypted_blocks
returns c =
    let a = c.args in
    let s = a.self.now in
    let l = c.loop-j in
    let e = mode_e s.mode (on_bytes (tabled_encrypt s.schedule.now)) in
    let w = a.work.now in
    let n = length w / 16 in
    let p = block_bytes a.first in
    let j : 16 * l.j ≡ 16 * n = omega (arith, c.loop-j-test.false) in
    turned_end e e n p w l.invariant (omega (arith, c.loop-j-test.false))
    ∙ ap₂ (λ (x : List ℕ) (i : ℕ). x ++ drop i w) (through_e e n p w) j
