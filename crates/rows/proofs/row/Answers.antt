-- `rows::row` meets its contract: whether there is such a row, and whether it is whole, is told by the length.
use mathlib.Core.Path.{sym, ap, ◌∙◌}
use Prim.Native.Nat.{ℕ}
use mathlib.Core.List.{List, []}
use native.Mathlib.Omega.{arith}
use borrow.Author.Tests.{ltb-false}
use Rattle.std.proofs.Common.{is_some}
use Rattle.rows.specs.Import.{fine_row, login_in, values_of}
use Rattle.words.proofs.ByteLaws.{bytes_of}
use Rattle.rows.proofs.Taking.{chunk_is, shown_of, shown_refused, shown_nowhere, shown_cut}
use Rattle.rows.proofs.row.Goals as goal

pub returns-then-div_ceil-number : goal.returns-then-div_ceil-number
returns-then-div_ceil-number c =
    record {
      bytes = bytes_of _ (λ i. omega (arith, c.type_inv.table i));
      is_answer = shown_nowhere _ _ (omega arith);
    }

pub returns-in-Some : goal.returns-in-Some
returns-in-Some c =
    let x = c.in-Some.ensures.lookup.3 in
    let r = x.1 [] ∙ chunk_is c.args.table.now _ c.args.number c.as_chunks.ensures.front (omega (arith, x.0, c.as_chunks.ensures.front_len)) in
    record {
      bytes = bytes_of _ (λ i. omega (arith, c.type_inv.table i));
      is_answer = shown_of _ _ (omega (arith, x.0, c.as_chunks.ensures.front_len)) _ (c.fine.ensures ∙ ap fine_row r) _ c.if-fine.true (c.read.ensures ∙ ap (λ (y : List ℕ). values_of (login_in y)) r);
    }

pub returns-in_default : goal.returns-in_default
returns-in_default c =
    let x = c.in-Some.ensures.lookup.3 in
    let r = x.1 [] ∙ chunk_is c.args.table.now _ c.args.number c.as_chunks.ensures.front (omega (arith, x.0, c.as_chunks.ensures.front_len)) in
    record {
      bytes = bytes_of _ (λ i. omega (arith, c.type_inv.table i));
      is_answer = shown_refused _ _ (omega (arith, x.0, c.as_chunks.ensures.front_len)) _ (c.fine.ensures ∙ ap fine_row r) c.if-fine.false;
    }

pub returns-in_default-2 : goal.returns-in_default-2
returns-in_default-2 c =
    let l = ltb-false _ _ (sym c.get.ensures.lookup.0 ∙ ap is_some c.in_default.is) in
    record {
      bytes = bytes_of _ (λ i. omega (arith, c.type_inv.table i));
      is_answer = shown_cut _ _ (omega (arith, c.as_chunks.ensures.front_len, l)) (omega (arith, c.as_chunks.ensures.front_len, l));
    }
