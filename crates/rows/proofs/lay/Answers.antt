-- `rows::lay` meets its contract: column after column, over zeros.
use Prim.Native.Nat.{ℕ}
use mathlib.Core.Path.{ap, ◌∙◌}
use mathlib.Core.List.{List}
use native.Mathlib.Omega.{arith}
use Rattle.std.specs.Int.{w32, to_le_bytes}
use Rattle.rows.specs.Laying.{with_column}
use Rattle.rows.proofs.Assembly.{laid_start, laid_column, is_row}
use Rattle.rows.proofs.lay.Goals as goal

pub returns : goal.returns
returns c =
    let a = c.args in
    let one = laid_column 256 0 _ _ (laid_start 256) 16 a.uuid.now _ (omega arith) c.put.ensures.value in
    let two = laid_column 256 16 _ _ one 80 a.title.now _ (omega arith) c.put-2.ensures.value in
    let three = laid_column 256 96 _ _ two 80 a.user.now _ (omega arith) c.put-3.ensures.value in
    let four = laid_column 256 176 _ _ three 72 a.group.now _ (omega arith) c.put-4.ensures.value in
    let five = laid_column 256 248 _ _ four 4 (to_le_bytes w32 a.days) _ (omega arith) (c.put-5.ensures.value ∙ ap (λ (d : List ℕ). with_column 248 4 d c.put-4.new.row) c.to_le_bytes.ensures) in
    is_row (record { uuid = a.uuid.now; title = a.title.now; user = a.user.now; group = a.group.now; days = a.days }) _ five
