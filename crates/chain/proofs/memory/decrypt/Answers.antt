-- `chain::memory::decrypt` meets its contract: all blocks are decrypted, with what the key makes.
use Rattle.std.proofs.Common.{ℕ, List, sym, ◌∙◌, subst, ap₂, rules}
use Rattle.twofish.specs.Tabled.{schedule_of}
use Rattle.twofish.specs.Twofish.{decrypt_block}
use Rattle.chain.specs.Decryption.{Decryption}
use Rattle.chain.specs.Memory.{Handed}
use Rattle.chain.specs.Blocks.{mode_d, decrypted_blocks}
use Rattle.chain.proofs.MemoryLaws.{refused_decrypt, decrypted_here}
use Rattle.chain.proofs.TwofishLaws.{tabled_dec, iv_bytes}
use Rattle.chain.proofs.memory.decrypt.Goals as goal

pub returns-then-work-ne0 : goal.returns-then-work-ne0
returns-then-work-ne0 c =
    let a = c.args in
    refused_decrypt (mode_d a.mode (decrypt_block a.key.now)) a.iv.now a.work.now a.count c.if-work-ne0.true (search rules)

pub returns : goal.returns
unfolding schedule_of
returns c =
    let a = c.args in
    let begun = iv_bytes a.iv.now c.told-iv c.fits-iv c.load.ensures in
    let u = c.decrypt in
    subst (λ (s : Decryption). Handed s u.new.work u.result)
    (ap₂ (λ (f : List ℕ → List ℕ) (p : List ℕ). decrypted_blocks (mode_d a.mode f) p a.work.now a.count)
    (tabled_dec a.key.now (rw c.new-schedule.ensures)) begun
    ∙ sym (decrypted_here _ a.iv.now a.work.now a.count c.if-work-ne0.false))
    u.ensures
