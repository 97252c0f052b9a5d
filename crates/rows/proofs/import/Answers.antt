-- `rows::import` meets its contract: what the rows ahead give is what the table gives.
use mathlib.Core.Path.{sym, ap, ◌∙◌}
use native.Mathlib.Omega.{arith}
use borrow.Author.Tests.{eqb-true, eqb-false}
use Rattle.words.proofs.ByteLaws.{bytes_of}
use Rattle.rows.specs.Import.{fine_row}
use Rattle.rows.proofs.Taking.{chunk_is, taken_start, taken_next, taken_fault, taken_all, taken_cut}
use Rattle.rows.proofs.import.Goals as goal

pub loop-number-init : goal.loop-number-init
loop-number-init c = taken_start _

pub loop-number-preserved : goal.loop-number-preserved
loop-number-preserved c =
    let l = c.loop-number in
    let r = chunk_is c.args.table.now _ l.number c.as_chunks.ensures.front (omega (arith, c.as_chunks.ensures.front_len)) in
    taken_next _ l.number l.invariant (omega (arith, c.as_chunks.ensures.front_len)) _ (c.fine.ensures ∙ ap fine_row r) c.if-not-fine.false

pub returns-then-not-fine : goal.returns-then-not-fine
returns-then-not-fine c =
    let l = c.loop-number in
    let r = chunk_is c.args.table.now _ l.number c.as_chunks.ensures.front (omega (arith, c.as_chunks.ensures.front_len)) in
    record {
      bytes = bytes_of _ (λ i. omega (arith, c.type_inv.table i));
      is_answer = taken_fault _ l.number l.invariant (omega (arith, c.as_chunks.ensures.front_len)) _ (c.fine.ensures ∙ ap fine_row r) c.if-not-fine.true;
    }

pub returns-then-not-is_empty : goal.returns-then-not-is_empty
returns-then-not-is_empty c =
    let l = c.loop-number in
    let e = eqb-false _ 0 (sym c.is_empty.ensures ∙ c.if-not-is_empty.true) in
    record {
      bytes = bytes_of _ (λ i. omega (arith, c.type_inv.table i));
      is_answer = taken_cut _ l.number l.invariant _ (omega arith) c.as_chunks.ensures.front_len (λ z. e (c.as_chunks.ensures.back_len ∙ z));
    }

pub returns : goal.returns
returns c =
    let l = c.loop-number in
    let e = eqb-true _ 0 (sym c.is_empty.ensures ∙ c.if-not-is_empty.false) in
    record {
      bytes = bytes_of _ (λ i. omega (arith, c.type_inv.table i));
      is_answer = taken_all _ l.number l.invariant _ (omega arith) c.as_chunks.ensures.front_len (sym c.as_chunks.ensures.back_len ∙ e);
    }
