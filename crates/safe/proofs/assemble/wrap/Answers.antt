-- `safe::assemble::wrap` meets its contract: the two keys are laid side by side, and encrypted.
use mathlib.Core.Path.{◌≡◌, refl, sym, ◌∙◌}
use mathlib.Core.List.{[], ◌++◌, append-nil}
use native.Mathlib.Omega.{arith}
use lib.ListN.{length}
use Rattle.safe.proofs.Slots.{laid}
use Rattle.safe.proofs.HandedOn.{wrapped_is}
use borrow.Author.Rules.{rules}
use Rattle.safe.proofs.assemble.wrap.Goals as goal

pub returns : goal.returns
returns c =
    let a = c.args in
    let K = a.k.now in
    let L = a.l.now in
    let hK : length K ≡ 32 = omega arith in
    let hL : length L ≡ 32 = omega arith in
    let first = laid [] K 64 32 refl (omega arith) refl c.lay.ensures in
    let second = laid K L 32 0 (sym hK) (omega arith) first c.lay-2.ensures in
    (wrapped_is a.key.now K L _ _ hK hL (second ∙ append-nil (K ++ L)) c.ecb_encrypt.ensures, search rules)
