-- `twofish::field::column` meets its contract: column by column, byte by byte.
use Rattle.twofish.specs.Columns.{column, col0, col1, col2, col3}
use borrow.Author.Tests.{ne_eqb}
use native.Mathlib.Omega.{arith}
use Rattle.twofish.proofs.field.column.Goals as goal

pub returns-in-0 : goal.returns-in-0
unfolding column col0
returns-in-0 c = rw c.in-0.is (cc)

pub returns-in-1 : goal.returns-in-1
unfolding column col1
returns-in-1 c = rw c.in-1.is (cc)

pub returns-in-2 : goal.returns-in-2
unfolding column col2
returns-in-2 c = rw c.in-2.is (cc)

pub returns-in_default : goal.returns-in_default
unfolding column col3
returns-in_default c =
    let j = c.args.j in
    rw (ne_eqb j 0 (omega arith), ne_eqb j 1 (omega arith), ne_eqb j 2 (omega arith)) (cc)
