-- `chain::ecb_encrypt` meets its contract: `memory::encrypt` in the mode ECB.
use Rattle.chain.specs.Modes.{ecb_e}
use Rattle.chain.specs.Blocks.{mode_e}
use Rattle.chain.proofs.ecb_encrypt.Goals as goal

pub returns : goal.returns
unfolding mode_e ecb_e
returns c = c.encrypt.ensures
