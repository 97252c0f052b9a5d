-- `logins::export` meets its contract: the tests decide in turn, and only a table that fits is written.
use Prim.Native.Nat.{ℕ, ◌*◌}
use mathlib.Core.Path.{refl, ap, ◌∙◌}
use mathlib.Core.List.{List, ◌++◌}
use native.Mathlib.Omega.{arith}
use lib.ListN.{drop, length-take}
use Rattle.std.specs.Prelude.{Err}
use Rattle.std.proofs.lemmas.Result.{err_from_is_err_and}
use Rattle.words.proofs.ByteLaws.{bytes_of}
use Rattle.logins.proofs.Answered.{refused, judged_not, judged_many, found, no_room, has_room}
use Rattle.logins.proofs.export.Goals as goal

pub returns-in_err-count : goal.returns-in_err-count
returns-in_err-count c =
    let g = c.args in
    let p = err_from_is_err_and c.from_residual.result c.from_residual.ensures.1 in
    refused g.body.now g.output.now g.time _ _ (bytes_of _ (λ i. omega (arith, c.type_inv.body i))) (omega arith) (p.1 ∙ ap Err p.2)
    (judged_not _ _ c.in_err-count.ensures _)

pub returns-in_err-check : goal.returns-in_err-check
returns-in_err-check c =
    let g = c.args in
    let p = err_from_is_err_and c.from_residual-in_err-check.result c.from_residual-in_err-check.ensures.1 in
    refused g.body.now g.output.now g.time _ _ (bytes_of _ (λ i. omega (arith, c.type_inv.body i))) (omega arith) (p.1 ∙ ap Err p.2)
    (found _ _ c.in_ok-count.ensures _ c.in_err-check.ensures _)

pub returns-then-room-count : goal.returns-then-room-count
returns-then-room-count c =
    let g = c.args in
    refused g.body.now g.output.now g.time _ _ (bytes_of _ (λ i. omega (arith, c.type_inv.body i))) (omega arith) refl
    (no_room _ _ c.in_ok-count.ensures c.in_ok-check.ensures _ c.if-room-count.true)

pub fill-requires-clause-all : goal.fill-requires-clause-all
fill-requires-clause-all c = simp length-take (omega (arith, judged_many _ _ c.in_ok-count.ensures, c.if-room-count.false))

pub returns : goal.returns
returns c =
    let g = c.args in
    record {
      bytes = bytes_of _ (λ i. omega (arith, c.type_inv.body i));
      small = omega arith;
      is_answer = has_room _ _ c.in_ok-count.ensures c.in_ok-check.ensures _ c.if-room-count.false;
      is_after = ap (λ (table : List ℕ). table ++ drop (256 * c.in_ok-count.field-0.records) g.output.now) c.fill.ensures;
    }
