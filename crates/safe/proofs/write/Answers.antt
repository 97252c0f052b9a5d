-- `safe::write` meets its contract: the early tests, and then the laying out.
use native.Mathlib.Omega.{arith}
use Rattle.std.proofs.lemmas.Result.{err_from_is_err_and}
use Rattle.words.proofs.ByteLaws.{bytes_of}
use Rattle.safe.specs.Answers.{refusal_number, answer_number}
use Rattle.safe.proofs.Writes.{values_of, blank, writes_refused, writes_laid}
use Rattle.safe.proofs.write.Goals as goal
use lib.ListN.{length, length-replicate}
use mathlib.Core.Path.{ap, ◌∙◌}

pub file-requires : goal.file-requires
file-requires c = blank _ _ _ _ c.writing.ensures c.in_ok-writing.was c.zero.ensures

pub returns-in_err-writing : goal.returns-in_err-writing
returns-in_err-writing c =
    let a = c.args in
    let w = writes_refused a.passphrase.now a.iter a.body.now (length a.output.now) a.salt.now a.k.now a.l.now a.iv.now _
    c.writing.ensures c.in_err-writing.was c.zero.ensures in
    let q = err_from_is_err_and c.from_residual.result c.from_residual.ensures.1 in
    record {
      values = values_of (omega arith, bytes_of a.salt.now (λ i. omega arith)) (omega arith)
          (omega arith, bytes_of a.k.now (λ i. omega arith)) (omega arith, bytes_of a.l.now (λ i. omega arith))
          (omega arith, bytes_of a.iv.now (λ i. omega arith)) (bytes_of a.body.now (λ i. omega (arith, c.type_inv.body i)));
      number = ap answer_number q.1 ∙ ap refusal_number q.2 ∙ w.0;
      output = w.1;
    }

pub returns : goal.returns
returns c =
    let a = c.args in
    let l = ap length c.zero.ensures ∙ length-replicate (length a.output.now) 0 in
    let w = writes_laid _ a.body.now (length a.output.now) c.writing.ensures c.in_ok-writing.was l c.file.ensures in
    record {
      values = values_of (omega arith, bytes_of a.salt.now (λ i. omega arith)) (omega arith)
          (omega arith, bytes_of a.k.now (λ i. omega arith)) (omega arith, bytes_of a.l.now (λ i. omega arith))
          (omega arith, bytes_of a.iv.now (λ i. omega arith)) (bytes_of a.body.now (λ i. omega (arith, c.type_inv.body i)));
      number = w.0;
      output = w.1;
    }
