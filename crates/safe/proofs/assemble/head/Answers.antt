-- `safe::assemble::head` meets its contract: part after part is laid on zeros.
use Rattle.words.proofs.Conversions.{to_le_word}
use Rattle.safe.proofs.Verdicts.{stretched_is}
use Rattle.safe.proofs.Laying.{head_laid}
use Rattle.safe.specs.V3.{v3, stretched_v3}
use Rattle.file.specs.Description.{wrapped}
use Rattle.file.specs.Layout.{tag}
use Rattle.stretch.proofs.Counts.{key_sized}
use Rattle.stretch.specs.Stretch.{stretched_of}
use lib.ListN.{length}
use Prim.Native.Nat.{ℕ}
use mathlib.Core.List.{List}
use mathlib.Core.Path.{refl, ap, ◌∙◌}
use native.Mathlib.Omega.{arith}
use Rattle.safe.proofs.assemble.head.Goals as goal

pub returns : goal.returns
unfolding tag
returns c =
    let v = c.args.v.now in
    let pass = v.passphrase.now in
    let salt = v.salt.now in
    let K = v.k.now in
    let L = v.l.now in
    let iter = v.iter in
    let st = c.stretched-s.ensures ∙ ap (stretched_of iter) c.start.ensures in
    let q = stretched_is pass salt iter st refl c.step.ensures in
    let ec = c.key.ensures ∙ q.1 in
    let ek = c.wrap.ensures.0 ∙ ap (λ (x : List ℕ). wrapped v3 x K L) (c.key-2.ensures ∙ q.0) in
    head_laid (stretched_v3 pass salt iter) salt iter K L v.iv.now _ _ _ (length c.args.output.now) c.requires.1 c.requires.0
    (omega arith) (ap length c.key.ensures ∙ (key_sized _).long) c.wrap.ensures.1 (omega arith)
    (c.to_le_bytes.ensures ∙ to_le_word iter) ec ek
    c.lay.ensures c.lay-2.ensures c.lay-3.ensures c.lay-4.ensures c.lay-5.ensures c.lay-6.ensures
