-- `rows::fit::plain` meets its contract: what holds of the bytes so far is kept from each byte to the next.
use mathlib.Core.Path.{◌≡◌, refl}
use Rattle.std.proofs.Common.{rules, tests}
use Rattle.std.proofs.lemmas.Fn.{fold_over, fronts}
use Rattle.std.proofs.lemmas.Iterator.{YieldsList, YieldsList-from_slice}
use Rattle.rows.specs.Plain.{is_plain}
use Rattle.rows.proofs.Sevenbit.{plain_more}
use Rattle.rows.proofs.fit.plain.Goals as goal

pub returns : goal.returns
returns c =
    let d = c.args.d.now in
    let y : YieldsList fronts (λ y. y.now) c.iter.result d = YieldsList-from_slice d cc in
    fold_over fronts (λ y. y.now) _ (λ ys a. a ≡ is_plain ys) _ (λ ys a x b f h k. (plain_more ys a b x.now h (search (rules, tests)), search rules)) c.iter.result d _ _ y.runs
    refl c.fold.ensures.ran
