-- `body::version_first` meets its contract: what the step at the start gives says whether the first field is Version.
use mathlib.Core.Path.{sym, ap, ◌∙◌}
use native.Mathlib.Omega.{arith}
use borrow.Author.Tests.{eq-eqb}
use Rattle.std.proofs.Common.{Ok}
use Rattle.std.proofs.lemmas.Bool.Decides.{nat_tests}
use Rattle.fields.specs.Step.{step_of}
use Rattle.fields.proofs.Outcomes.{forward}
use Rattle.body.proofs.FirstField.{version_took}
use Rattle.body.proofs.version_first.Goals as goal
use Rattle.body.proofs.version_first.Goals.{then-first-eq0, else-first-eq0}

pub bounds-body-6 : goal.bounds-body-6
bounds-body-6 c = omega (arith, forward c.args.body.now c.start.result _ (sym c.in-Ok-Some.ensures ∙ ap Ok c.in-Ok-Some.field-0-is))

pub returns-then-first-eq2 : goal.returns-then-first-eq2
returns-then-first-eq2 c =
    let s = c.args.body.now in
    rw (← version_took s _ (ap (step_of s) (sym c.start.ensures) ∙ sym c.in-Ok-Some.ensures ∙ ap Ok c.in-Ok-Some.field-0-is), eq-eqb _ _ c.if-first-eq2.true.0, eq-eqb _ _ c.if-first-eq2.true.1)

pub returns-else-first-eq2 : goal.returns-else-first-eq2
returns-else-first-eq2 c =
    let s = c.args.body.now in
    rw (← version_took s _ (ap (step_of s) (sym c.start.ensures) ∙ sym c.in-Ok-Some.ensures ∙ ap Ok c.in-Ok-Some.field-0-is))
    (elim c.if-first-eq0.branch [
      | then-first-eq0 w ↦ grind (arith, nat_tests)
      | else-first-eq0 w ↦ grind (arith, nat_tests)
    ])
