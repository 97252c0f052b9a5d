-- `safe::refusals::reading` meets its contract: a file whose length has passed is long enough for the tests that follow.
use mathlib.Core.Path.{sym, ◌∙◌}
use native.Mathlib.Omega.{arith}
use lib.ListN.{length}
use Rattle.file.proofs.Accepted.{good_length}
use Rattle.safe.proofs.refusals.reading.Goals as goal

pub overflow_sub-n : goal.overflow_sub-n
overflow_sub-n c = omega (arith, good_length (length c.args.file.now) (sym c.bad_length.ensures ∙ c.if-bad_length.false))

pub wrong_tag-requires : goal.wrong_tag-requires
wrong_tag-requires c = omega (arith, good_length (length c.args.file.now) (sym c.bad_length.ensures ∙ c.if-bad_length.false))

pub iter-i-requires : goal.iter-i-requires
iter-i-requires c = omega (arith, good_length (length c.args.file.now) (sym c.bad_length.ensures ∙ c.if-bad_length.false))
