-- `safe::read` meets its contract: the early tests, and then the opening.
use native.Mathlib.Omega.{arith}
use Rattle.words.proofs.ByteLaws.{bytes_of}
use Rattle.safe.proofs.Verdicts.{reads_refused, reads_passed, ready}
use Rattle.safe.proofs.read.Goals as goal

pub open-requires : goal.open-requires
open-requires c =
    let a = c.args in
    ready a.file.now a.passphrase.now a.workspace.now _ a.ceiling c.reading.ensures c.in-Ok.is c.zero.ensures

pub returns-in-Err : goal.returns-in-Err
returns-in-Err c =
    let a = c.args in
    record {
      bytes = bytes_of a.file.now (λ i. omega (arith, c.type_inv.file i));
      reports = reads_refused a.file.now a.passphrase.now a.workspace.now a.ceiling _ c.reading.ensures c.in-Err.is
          c.refused.ensures c.zero.ensures;
    }

pub returns-in-Ok : goal.returns-in-Ok
returns-in-Ok c =
    let a = c.args in
    record {
      bytes = bytes_of a.file.now (λ i. omega (arith, c.type_inv.file i));
      reports = reads_passed a.file.now a.passphrase.now a.workspace.now _ a.ceiling c.reading.ensures c.in-Ok.is
          c.zero.ensures c.open.ensures;
    }
