-- `chain::Chaining::encrypt_block` meets its contract: the block is read, chained and encrypted, and its cipher block stored over it.
use Rattle.twofish.specs.Tabled.{tabled_encrypt}
use Rattle.chain.specs.Blocks.{chained}
use Rattle.std.proofs.Common.{ap, ◌∙◌}
use Rattle.chain.proofs.Chaining.encrypt_block.Goals as goal

pub returns : goal.returns
returns c =
    let s = c.args.self.now in
    record {
      block =
          c.encrypt-x.ensures
          ∙ ap (tabled_encrypt s.schedule.now) (c.chained.ensures ∙ ap (chained s.mode c.args.prev) c.load.ensures);
      memory = c.copy_from_slice.ensures.after ∙ c.bytes.ensures;
    }
