-- `chain::cbc_decrypt` meets its contract: `memory::decrypt` in the mode CBC.
use Rattle.chain.specs.Modes.{cbc_d}
use Rattle.chain.specs.Blocks.{mode_d}
use Rattle.chain.proofs.cbc_decrypt.Goals as goal

pub returns : goal.returns
unfolding mode_d cbc_d
returns c = c.decrypt.ensures
