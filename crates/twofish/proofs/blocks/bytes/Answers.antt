-- `twofish::blocks::bytes` meets its contract: word by word, byte by byte.
use Rattle.twofish.proofs.Inverse.{sixteen}
use Rattle.twofish.proofs.blocks.bytes.Goals as goal

pub returns : goal.returns
returns c =
    rw (
      c.copy_from_slice.ensures.after,
      c.copy_from_slice-2.ensures.after,
      c.copy_from_slice-3.ensures.after,
      c.copy_from_slice-4.ensures.after,
      c.to_le_bytes.ensures,
      c.to_le_bytes-2.ensures,
      c.to_le_bytes-3.ensures,
      c.to_le_bytes-4.ensures,
    )
    (sixteen c.args.x)
