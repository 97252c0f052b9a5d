-- `twofish::blocks::encrypt_block` meets its contract: the cipher on four words, with what the key makes.
use Rattle.twofish.specs.Twofish.{encrypt_block}
use Rattle.twofish.proofs.Keyed.{encrypts, in_bytes}
use Rattle.twofish.proofs.blocks.encrypt_block.Goals as goal

pub returns : goal.returns
unfolding encrypt_block
returns c =
    in_bytes c.args.b.now (encrypts c.args.m.now c.new.ensures) c.load.ensures c.encrypt.ensures c.bytes.ensures
