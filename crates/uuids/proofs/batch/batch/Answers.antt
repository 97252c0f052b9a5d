-- `uuids::batch::batch` meets its contract: it lends the empty table to `pass`.
use Rattle.uuids.proofs.Members.{all_zero}
use Rattle.uuids.proofs.batch.batch.Goals as goal

pub pass-requires : goal.pass-requires
pass-requires c = (c.requires.0, c.requires.1, all_zero)
