-- `twofish::key::word_a` meets its contract: by its definition.
use Rattle.twofish.specs.Key.{word_a}
use Rattle.twofish.proofs.key.word_a.Goals as goal

pub returns : goal.returns
unfolding word_a
returns c = c.h.ensures
