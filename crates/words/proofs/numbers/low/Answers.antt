-- `words::numbers::low` meets its contract: std's conversion of four bytes is their number.
use mathlib.Core.Path.{◌∙◌}
use Rattle.words.proofs.Conversions.{from_le_word}
use Rattle.words.proofs.numbers.low.Goals as goal

pub returns : goal.returns
returns c = c.from_le_bytes.ensures ∙ from_le_word c.args.a c.args.b c.args.c c.args.d
