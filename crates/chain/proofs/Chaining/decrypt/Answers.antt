-- `chain::Chaining::decrypt` meets its contract: after j turns the memory has the definition's first 3 j blocks of text, and then the rest
-- of the cipher text, which `decrypt_singly` decrypts; the count has gone on by 3 j.
use Rattle.std.proofs.Common.{◌≡◌, ℕ, ◌+◌, ◌-◌, ◌*◌, ◌/◌, ◌%◌, ◌^◌, length, ap, ◌∙◌, subst, arith}
use borrow.Author.Rules.{rules}
use Rattle.words.specs.Numbers.{Bytes}
use Rattle.words.proofs.ByteLaws.{bytes_of}
use Rattle.twofish.specs.Twofish.{block_bytes}
use Rattle.twofish.specs.Tabled.{tabled_decrypt}
use Rattle.chain.proofs.Turns.{Decrypting, turned_start, three_turn, then_singly}
use Rattle.chain.proofs.Chaining.decrypt.Goals as goal

pub loop-turn-init : goal.loop-turn-init
loop-turn-init c =
    let o = c.well_formed in
    (turned_start _ _ _ _ _ (omega arith) (record { fa = omega (arith, o); fb = omega (arith, o); fc = omega (arith, o); fd = omega (arith, o) }), omega arith)

pub loop-turn-preserved : goal.loop-turn-preserved
loop-turn-preserved c =
    let u = c.decrypt_three-prev in
    let l = c.loop-turn in
    let less = c.loop-turn-test.true in
    let a = c.args in
    let bytes : Bytes a.work.now = bytes_of a.work.now (λ i. search rules) in (
      three_turn a.self.now.mode _ _ _ a.work.now bytes _ _ l.invariant.0 (omega (arith, less)) (omega arith) (omega (arith, less))
          u.result u.new.b u.ensures,
      omega (arith, l.invariant.1),
    )

pub returns : goal.returns
returns c =
    let a = c.args in
    let s = a.self.now in
    let l = c.loop-turn in
    let w = a.work.now in
    let n = length w / 16 in
    let D = tabled_decrypt s.schedule.now in
    let p = block_bytes a.first in
    let turns : l.turn ≡ length w / 48 = omega (arith, c.loop-turn-test.false) in
    let taken : 3 * l.turn ≡ n - (n - 3 * (length w / 48)) = omega (arith, c.loop-turn-test.false) in
    let o = subst (λ (t : ℕ). Decrypting s.mode D n p w (n - 3 * t) (48 * t) l.work l.prev) turns l.invariant.0 in
    then_singly s.mode D p w a.count o (omega arith) l.c (l.invariant.1 ∙ ap (λ (x : ℕ). (a.count + x) % 2 ^ 64) taken)
    c.decrypt_singly.ensures
