-- `twofish::key::word_b` meets its contract: by its definition.
use Rattle.twofish.specs.Key.{word_b}
use Rattle.twofish.proofs.key.word_b.Goals as goal

pub returns : goal.returns
unfolding word_b
returns c = cc
