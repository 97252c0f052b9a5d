-- `safe::open::open` meets its contract: the stretcher's states are the definition's, and so are its check and what follows.
use mathlib.Core.Path.{sym, ap, ap₂, ◌∙◌}
use mathlib.Core.List.{List}
use Prim.Native.Nat.{ℕ}
use lib.ListN.{take, drop}
use Rattle.words.specs.Slices.{same}
use Rattle.file.specs.Layout.{split}
use Rattle.file.specs.Reading.{refused}
use Rattle.safe.specs.V3.{stretched_v3}
use Rattle.safe.specs.Calls.{salt_in, iter_in}
use Rattle.safe.specs.Steps.{settled_under}
use Rattle.safe.proofs.Verdicts.{opened_states, checked_passed, checked_failed, reports_as, refused_reports}
use Rattle.safe.proofs.open.open.Goals as goal

pub returns-then-not-same : goal.returns-then-not-same
unfolding split
returns-then-not-same c =
    let file = c.args.file.now in
    let pass = c.args.passphrase.now in
    let q = opened_states file pass c.requires.whole c.first-salt.ensures c.start.ensures c.iter.ensures c.stretched-s.ensures c.step-c.ensures in
    let e = ap (λ (m : List ℕ). same m (take 32 (drop 40 file))) (sym q.1 ∙ sym c.key.ensures) ∙ sym c.same.ensures ∙ c.if-not-same.true in
    refused_reports 8 _ 0 (checked_failed file (stretched_v3 pass (salt_in file) (iter_in file)) e)
    (c.refused.ensures ∙ ap (λ k. refused 8 k 0) q.2) c.requires.blank

pub returns : goal.returns
unfolding split
returns c =
    let file = c.args.file.now in
    let pass = c.args.passphrase.now in
    let q = opened_states file pass c.requires.whole c.first-salt.ensures c.start.ensures c.iter.ensures c.stretched-s.ensures c.step-c.ensures in
    let e = ap (λ (m : List ℕ). same m (take 32 (drop 40 file))) (sym q.1 ∙ sym c.key.ensures) ∙ sym c.same.ensures ∙ c.if-not-same.false in
    reports_as (checked_passed file (stretched_v3 pass (salt_in file) (iter_in file)) e ∙ sym (ap₂ (settled_under file) (c.key-2.ensures ∙ q.0) q.2)) c.unlocked.ensures
