-- `sha256::compression::word` meets its contract: an element of what is dropped is an element further on.
use Rattle.std.proofs.Common.{add-zero, get_or-drop}
use Rattle.sha256.specs.Sha256.{word_of}
use Rattle.sha256.proofs.compression.word.Goals as goal

pub returns : goal.returns
unfolding word_of
returns c = rw c.high.ensures (simp (get_or-drop, add-zero))
