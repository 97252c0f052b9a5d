-- `rows::column::Column::fine` meets its contract: the text, and what is after it, are the definition's.
use mathlib.Core.Path.{◌≡◌, sym, ap, ◌∙◌}
use mathlib.Core.Bool.{Bool, not, ◌&&◌}
use lib.ListN.{length}
use Rattle.words.specs.Slices.{zeros, same}
use Rattle.rows.specs.Import.{fine_column}
use Rattle.rows.proofs.Columns.{column_long, column_fine}
use Rattle.rows.proofs.column.Column.fine.Goals as goal

pub returns-then-not-unfit : goal.returns-then-not-unfit
returns-then-not-unfit c =
    let s = c.args.self in
    let r = c.split_at.result in
    let l : length c.of-bytes.result.now ≡ s.room = ap length c.of-bytes.ensures ∙ column_long c.args.row.now c.told-row s.place s.room s.inside in
    c.all_zero.ensures
    ∙ ap (λ (u : Bool). not u && same r.1.now (zeros (length r.1.now))) (sym c.if-not-unfit.true ∙ c.unfit.ensures)
    ∙ column_fine s.kind s.room _ _ _ _ l c.before_zero.ensures.value c.split_at.ensures.front c.split_at.ensures.back
    ∙ ap (fine_column s.kind s.room) c.of-bytes.ensures

pub returns-else-not-unfit : goal.returns-else-not-unfit
returns-else-not-unfit c =
    let s = c.args.self in
    let r = c.split_at.result in
    let l : length c.of-bytes.result.now ≡ s.room = ap length c.of-bytes.ensures ∙ column_long c.args.row.now c.told-row s.place s.room s.inside in
    ap not c.if-not-unfit.false
    ∙ ap (λ (u : Bool). not u && same r.1.now (zeros (length r.1.now))) (sym c.if-not-unfit.false ∙ c.unfit.ensures)
    ∙ column_fine s.kind s.room _ _ _ _ l c.before_zero.ensures.value c.split_at.ensures.front c.split_at.ensures.back
    ∙ ap (fine_column s.kind s.room) c.of-bytes.ensures
