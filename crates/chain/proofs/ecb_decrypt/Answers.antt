-- `chain::ecb_decrypt` meets its contract: `memory::decrypt` in the mode ECB.
use Rattle.chain.specs.Modes.{ecb_d}
use Rattle.chain.specs.Blocks.{mode_d}
use Rattle.chain.proofs.ecb_decrypt.Goals as goal

pub returns : goal.returns
unfolding mode_d ecb_d
returns c = c.decrypt.ensures
