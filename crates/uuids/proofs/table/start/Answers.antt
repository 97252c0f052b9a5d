-- `uuids::table::start` meets its contract: the four words that are read are those of the 16 bytes, and what is less than 2^32 gives a slot below 24,576.
use mathlib.Core.Path.{ap, ◌∙◌}
use native.Mathlib.Omega.{arith}
use Rattle.std.proofs.Common.{ℕ, ◌*◌, ◌/◌, ◌%◌}
use Rattle.uuids.proofs.Same.{start_read, wrapped}
use Rattle.uuids.proofs.table.start.Goals as goal

pub returns : goal.returns
returns c = (
  ap (λ (x : ℕ). x * 24576 / 4294967296) (c.from.ensures ∙ ap (λ (x : ℕ). x * 2654435769 % 4294967296) (wrapped _ _ _ _))
      ∙ start_read c.args.s.now c.args.p _ _ _ _ c.word_at.ensures c.word_at-2.ensures c.word_at-3.ensures c.word_at-4.ensures,
  omega (arith, c.from.ensures),
)
