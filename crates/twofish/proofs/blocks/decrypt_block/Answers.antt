-- `twofish::blocks::decrypt_block` meets its contract: the cipher on four words, with what the key makes.
use Rattle.twofish.specs.Twofish.{decrypt_block}
use Rattle.twofish.proofs.Keyed.{decrypts, in_bytes}
use Rattle.twofish.proofs.blocks.decrypt_block.Goals as goal

pub returns : goal.returns
unfolding decrypt_block
returns c =
    in_bytes c.args.b.now (decrypts c.args.m.now c.new.ensures) c.load.ensures c.decrypt.ensures c.bytes.ensures
