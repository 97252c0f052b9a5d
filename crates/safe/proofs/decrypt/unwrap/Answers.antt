-- `safe::decrypt::unwrap` meets its contract: the memory after decryption is the state of the definition.
use mathlib.Core.Path.{sym, ◌∙◌}
use native.Mathlib.Omega.{arith}
use lib.Seq.{length-take-le}
use Rattle.words.specs.Slices.{zeros}
use Rattle.chain.specs.Modes.{ecb_d}
use Rattle.chain.specs.Memory.{decrypted_in_place, Handed}
use Rattle.chain.specs.Twofish.{twofish_cipher}
use Rattle.words.proofs.SliceLaws.{copied_whole}
use Rattle.safe.proofs.HandedOn.{unwrapped}
use borrow.Author.Rules.{rules}
use Rattle.safe.proofs.decrypt.unwrap.Goals as goal

pub slice_bounds-first-end : goal.slice_bounds-first-end
slice_bounds-first-end c = sym (length-take-le 32 c.ecb_decrypt-blocks.new.work (omega arith))

pub returns : goal.returns
returns c =
    let e = c.first-w.ensures ∙ copied_whole 64 c.args.keys.now c.requires in
    let h : Handed (decrypted_in_place (ecb_d twofish_cipher c.args.key.now) (zeros 16) c.args.keys.now 0) _ _ = rw e at c.ecb_decrypt-blocks.ensures in
    unwrapped c.args.key.now c.args.keys.now _ c.requires h c.first.ensures c.first-2.ensures (search rules)
