-- `safe::assemble::file` meets its contract: the head, the body behind it, and where no block is the marker the rest.
use Rattle.safe.proofs.V3Laws.{hmac_sized}
use Prim.Native.Nat.{◌≤◌, ℕ, ◌+◌, ◌-◌}
use mathlib.Core.Path.{◌≡◌, refl, sym, ap, ◌∙◌}
use mathlib.Core.List.{List, ◌++◌}
use native.Mathlib.Omega.{arith}
use lib.ListN.{length, take, drop}
use Rattle.words.specs.Slices.{zeros}
use Rattle.safe.specs.V3.{stretched_v3}
use Rattle.safe.specs.Laying.{head_of}
use Rattle.safe.proofs.Laying.{head_is_long, new_long, new_is, body_laid, part_is, laid_refused, laid_done}
use borrow.Author.Rules.{rules}
use Rattle.safe.proofs.assemble.file.Goals as goal

pub returns-then-is_some : goal.returns-then-is_some
returns-then-is_some c =
    let v = c.args.v.now in
    let body = c.args.body.now in
    let K = v.k.now in
    let iv = v.iv.now in
    let n = length c.args.output.now in
    let H = head_of (stretched_v3 v.passphrase.now v.salt.now v.iter) v.salt.now v.iter K v.l.now iv in
    let o1 = c.head.new.output in
    let new = c.cbc_encrypt.new.to in
    let h : 200 + length body ≤ n = omega (arith, c.requires.holds) in
    let lo : length o1 ≡ n = omega arith in
    let ln : length new ≡ length (take (152 + length body - 152) (drop 152 o1)) = search rules in
    let e1 = c.head.ensures in
    let en = c.cbc_encrypt.ensures in
    let o2 : List ℕ = take 152 o1 ++ (new ++ drop (152 + length body - 152) (drop 152 o1)) in
    let l3 : length o2 ≡ n = omega (arith, lo, ln) in
    laid_refused v body n new _
    (new_is H K iv body o1 new n h c.requires.whole lo e1 ln en) (new_long H K iv body o1 new n h c.requires.whole lo e1 ln en) c.first_marker.ensures (part_is H K iv body o1 new n h c.requires.whole lo e1 ln en _ refl) (sym c.is_some.ensures ∙ c.if-is_some.true) (c.zero.ensures ∙ ap zeros l3)

pub returns : goal.returns
returns c =
    let v = c.args.v.now in
    let body = c.args.body.now in
    let K = v.k.now in
    let iv = v.iv.now in
    let n = length c.args.output.now in
    let H = head_of (stretched_v3 v.passphrase.now v.salt.now v.iter) v.salt.now v.iter K v.l.now iv in
    let o1 = c.head.new.output in
    let new = c.cbc_encrypt.new.to in
    let h : 200 + length body ≤ n = omega (arith, c.requires.holds) in
    let lo : length o1 ≡ n = omega arith in
    let ln : length new ≡ length (take (152 + length body - 152) (drop 152 o1)) = search rules in
    let e1 = c.head.ensures in
    let en = c.cbc_encrypt.ensures in
    laid_done v body n new _ _ _ h
    (new_is H K iv body o1 new n h c.requires.whole lo e1 ln en) (new_long H K iv body o1 new n h c.requires.whole lo e1 ln en) (head_is_long H K iv body o1 new n h c.requires.whole lo e1 ln en) c.first_marker.ensures (part_is H K iv body o1 new n h c.requires.whole lo e1 ln en _ refl) (sym c.is_some.ensures ∙ c.if-is_some.false)
    c.marker.ensures c.of_body.ensures (ap length c.of_body.ensures ∙ (hmac_sized _ _).long) (body_laid H K iv body o1 new n h c.requires.whole lo e1 ln en _ refl) c.lay.ensures c.lay-2.ensures
