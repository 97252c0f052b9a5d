-- `words::numbers::high` meets its contract: std's conversion of four bytes is their number.
use mathlib.Core.Path.{◌∙◌}
use Rattle.words.proofs.Conversions.{from_be_word}
use Rattle.words.proofs.numbers.high.Goals as goal

pub returns : goal.returns
returns c = c.from_be_bytes.ensures ∙ from_be_word c.args.a c.args.b c.args.c c.args.d
