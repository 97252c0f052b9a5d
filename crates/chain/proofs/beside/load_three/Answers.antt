-- `chain::beside::load_three` meets its contract: block by block.
use Rattle.chain.specs.Blocks.{three_of}
use Rattle.chain.proofs.beside.load_three.Goals as goal

pub returns : goal.returns
unfolding three_of
returns c = λ i. record { x = c.load.ensures i; y = c.load-2.ensures i; z = c.load-3.ensures i }
