-- `safe::decrypt::decrypt` meets its contract: keys, memory and count are those of the definition's last state.
use mathlib.Core.Path.{◌≡◌, ap, ◌∙◌}
use Prim.Native.Nat.{ℕ, ◌-◌}
use native.Mathlib.Omega.{arith}
use lib.ListN.{length, take, drop, length-drop}
use lib.Seq.{length-take-le}
use Rattle.words.specs.Numbers.{Bytes}
use Rattle.words.proofs.ByteLaws.{bytes_of}
use Rattle.words.proofs.SliceLaws.{copied_over, copied_whole}
use Rattle.file.specs.Layout.{split}
use Rattle.safe.proofs.HandedOn.{body_decrypted_lem}
use Rattle.safe.proofs.decrypt.decrypt.Goals as goal

pub returns : goal.returns
unfolding split
returns c =
    let f = c.args.file.now in
    let bytes : Bytes f = bytes_of f (λ i. omega (arith, c.type_inv.file i)) in
    let d136 = length-drop 136 f in
    let d152 = length-drop 152 f in
    let m : length f - 48 - 152 ≡ length f - 200 = omega arith in
    body_decrypted_lem f c.args.key.now _ _ _ bytes c.requires c.unwrap-blocks.ensures
    (c.first-iv.ensures ∙ copied_whole 16 (take 16 (drop 136 f)) (length-take-le 16 (drop 136 f) (omega (arith, c.requires.whole))))
    (c.copy.ensures ∙ (copied_over _ _ (omega (arith, c.requires.whole, d152)) ∙ ap (λ (k : ℕ). take k (drop 152 f)) m))
    c.cbc_decrypt-blocks.ensures
