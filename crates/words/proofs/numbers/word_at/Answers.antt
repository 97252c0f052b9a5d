-- `words::numbers::word_at` meets its contract: the four bytes at a place are those at four indices.
use mathlib.Core.Path.{sym, ap, ◌∙◌}
use Rattle.words.specs.Numbers.{number_low}
use Rattle.words.proofs.Places.{four_at_lem}
use Rattle.words.proofs.numbers.word_at.Goals as goal

pub returns : goal.returns
returns c = c.low.ensures ∙ ap number_low (sym (four_at_lem c.args.s.now c.args.p c.requires))
