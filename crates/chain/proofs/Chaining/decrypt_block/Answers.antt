-- `chain::Chaining::decrypt_block` meets its contract: the block is read, decrypted and chained, and its text stored over it.
use Rattle.twofish.specs.Twofish.{block_bytes}
use Rattle.chain.specs.Blocks.{chained}
use Rattle.std.proofs.Common.{ap, ◌∙◌}
use Rattle.chain.proofs.Chaining.decrypt_block.Goals as goal

pub returns : goal.returns
returns c =
    let s = c.args.self.now in
    record {
      block = c.load-x.ensures;
      memory =
          c.copy_from_slice.ensures.after
          ∙ c.bytes.ensures
          ∙ ap block_bytes (c.chained-y.ensures ∙ ap (chained s.mode c.args.prev) c.decrypt.ensures);
    }
