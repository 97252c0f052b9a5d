-- `words::hex::number` meets its contract: what the digits behind come to, modulo 2^32, is kept from each digit to the next.
use mathlib.Core.Path.{◌≡◌}
use Prim.Native.Nat.{◌%◌, ◌^◌}
use native.Mathlib.Omega.{arith}
use borrow.Author.Rules.{rules}
use Rattle.std.proofs.lemmas.Fn.{fold_over, fronts}
use Rattle.std.proofs.lemmas.Iterator.{YieldsList, YieldsList-from_slice}
use Rattle.words.specs.Hex.{hex_number}
use Rattle.words.proofs.HexLaws.{told_or}
use Rattle.words.proofs.HexNumbers.{number_next}
use Rattle.words.proofs.hex.number.Goals as goal

pub returns : goal.returns
unfolding hex_number
returns c =
    let s = c.args.s.now in
    let y : YieldsList fronts (λ y. y.now) c.iter.result s = YieldsList-from_slice s cc in
    fold_over fronts (λ y. y.now) _ (λ ys n. n ≡ hex_number ys % 2 ^ 32) _ (λ ys n x m f e k. (number_next ys n x.now m e (search (rules, told_or)), search rules)) c.iter.result s _ _ y.runs
    (omega arith) c.fold.ensures.ran
