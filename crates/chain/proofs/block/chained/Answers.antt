-- `chain::block::chained` meets its contract: mode by mode, as its definition goes.
use Rattle.chain.specs.Blocks.{chained}
use Rattle.std.proofs.Common.{refl}
use Rattle.chain.proofs.block.chained.Goals as goal

pub returns-in-Ecb : goal.returns-in-Ecb
unfolding chained
returns-in-Ecb c = rw c.in-Ecb.is refl

pub returns-in-Cbc : goal.returns-in-Cbc
unfolding chained
returns-in-Cbc c = rw c.in-Cbc.is c.xor.ensures
