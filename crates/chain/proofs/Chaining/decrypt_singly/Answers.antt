-- `chain::Chaining::decrypt_singly` meets its contract: after j turns the memory has the definition's first j blocks of text, and then
-- the rest of the cipher text; the count has gone on by j.
use Rattle.std.proofs.Common.{◌≡◌, ℕ, ◌+◌, ◌*◌, ◌/◌, ◌%◌, ◌^◌, List, ◌++◌, length, drop, ap, ◌∙◌, ap₂, arith}
use borrow.Author.Rules.{rules}
use Rattle.words.specs.Numbers.{Bytes}
use Rattle.words.proofs.ByteLaws.{bytes_of}
use Rattle.twofish.specs.Twofish.{block_bytes}
use Rattle.twofish.specs.Tabled.{tabled_decrypt}
use Rattle.chain.specs.Blocks.{on_bytes, mode_d}
use Rattle.chain.proofs.MemoryLaws.{all_decrypted}
use Rattle.chain.proofs.Through.{taken, through_d}
use Rattle.chain.proofs.Turns.{turned_start, turned_end, decrypt_turn}
use Rattle.chain.proofs.Chaining.decrypt_singly.Goals as goal

pub loop-j-init : goal.loop-j-init
loop-j-init c =
    let o = c.well_formed in
    (turned_start _ _ _ _ _ (omega arith) (record { fa = omega (arith, o); fb = omega (arith, o); fc = omega (arith, o); fd = omega (arith, o) }), omega arith)

pub loop-j-preserved : goal.loop-j-preserved
loop-j-preserved c =
    let u = c.decrypt_block-prev in
    let l = c.loop-j in
    let less = c.loop-j-test.true in
    let a = c.args in
    let bytes : Bytes a.work.now = bytes_of a.work.now (λ i. search rules) in (
      decrypt_turn a.self.now.mode _ _ _ a.work.now bytes _ _ l.invariant.0 (omega (arith, less)) (omega arith) (omega (arith, less))
          u.result u.new.b u.ensures,
      omega (arith, l.invariant.1),
    )

pub returns : goal.returns
returns c =
    let a = c.args in
    let s = a.self.now in
    let l = c.loop-j in
    let d = mode_d s.mode (on_bytes (tabled_decrypt s.schedule.now)) in
    let w = a.work.now in
    let n = length w / 16 in
    let p = block_bytes a.first in
    let e : l.j ≡ n = omega (arith, c.loop-j-test.false) in
    all_decrypted d p w a.count
    (turned_end d taken n p w l.invariant.0 (omega (arith, c.loop-j-test.false))
    ∙ ap₂ (λ (x : List ℕ) (i : ℕ). x ++ drop i w) (through_d d n p w) (ap (λ (x : ℕ). 16 * x) e))
    (l.invariant.1 ∙ ap (λ (x : ℕ). (a.count + x) % 2 ^ 64) e)
