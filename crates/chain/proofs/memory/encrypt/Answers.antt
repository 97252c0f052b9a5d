-- `chain::memory::encrypt` meets its contract: all blocks are encrypted, with what the key makes.
use Rattle.std.proofs.Common.{ℕ, List, sym, ◌∙◌, ap₂}
use Rattle.twofish.specs.Twofish.{encrypt_block}
use Rattle.chain.specs.Blocks.{mode_e, encrypted_blocks}
use Rattle.chain.proofs.MemoryLaws.{refused_encrypt, encrypted_here}
use Rattle.chain.proofs.TwofishLaws.{tabled_enc, iv_bytes}
use Rattle.chain.proofs.memory.encrypt.Goals as goal

pub returns-then-work-ne0 : goal.returns-then-work-ne0
returns-then-work-ne0 c =
    let a = c.args in
    refused_encrypt (mode_e a.mode (encrypt_block a.key.now)) a.iv.now a.work.now c.if-work-ne0.true

pub returns : goal.returns
returns c =
    let a = c.args in
    let same = tabled_enc a.key.now c.new-schedule.ensures in
    let begun = iv_bytes a.iv.now c.told-iv c.fits-iv c.load.ensures in
    c.encrypt.ensures
    ∙ ap₂ (λ (f : List ℕ → List ℕ) (p : List ℕ). encrypted_blocks (mode_e a.mode f) p a.work.now) same begun
    ∙ sym (encrypted_here _ a.iv.now a.work.now c.if-work-ne0.false)
