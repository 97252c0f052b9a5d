-- `words::hex::all_digits` meets its contract: std's `all` goes along the bytes as the definition does, with the same test.
use mathlib.Core.Path.{◌∙◌}
use lib.Dec.{ltb}
use borrow.Author.Rules.{rules}
use Rattle.std.proofs.lemmas.Iterator.{YieldsList-from_slice}
use Rattle.std.proofs.lemmas.Iterator.Search.{all_from_yields_List}
use Rattle.words.specs.Hex.{hex_value, all_digits}
use Rattle.words.proofs.EachLaws.{all_is}
use Rattle.words.proofs.HexLaws.{some_told}
use Rattle.words.proofs.hex.all_digits.Goals as goal

pub returns : goal.returns
unfolding all_digits
returns c =
    let s = c.args.s.now in
    all_from_yields_List (λ b. ltb (hex_value b) 16) _ _ _ c.all.ensures.ran (YieldsList-from_slice s cc) (λ x b q k. search (rules, some_told))
    ∙ all_is (λ b. ltb (hex_value b) 16) s
