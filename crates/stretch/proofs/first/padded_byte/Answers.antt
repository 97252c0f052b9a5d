-- `stretch::first::padded_byte` meets its contract: a byte of either part, or of the padding.
use Rattle.stretch.proofs.FirstBlocks.{in_first, in_second, in_padding}
use Rattle.stretch.proofs.first.padded_byte.Goals as goal

pub returns-then-i-p : goal.returns-then-i-p
returns-then-i-p c = let a = c.args in in_first a.p.now a.s.now a.i c.if-i-p.true

pub returns-then-i-p-2 : goal.returns-then-i-p-2
returns-then-i-p-2 c = let a = c.args in in_second a.p.now a.s.now a.i c.if-i-p.false c.if-i-p-2.true

pub returns-else-i-p-2 : goal.returns-else-i-p-2
returns-else-i-p-2 c = let a = c.args in in_padding a.p.now a.s.now a.i c.if-i-p.false c.if-i-p-2.false c.padding_byte.ensures
