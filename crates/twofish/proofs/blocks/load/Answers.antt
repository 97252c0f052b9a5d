-- `twofish::blocks::load` meets its contract: word by word, and past its end a list gives 0, as the zeros behind it do.
use Rattle.words.specs.Numbers.{number_low}
use Rattle.words.proofs.Places.{four_at_lem}
use Rattle.twofish.specs.Twofish.{block_of}
use Rattle.twofish.proofs.Rounds.{blocks}
use Rattle.twofish.proofs.Inverse.{block_of_first}
use mathlib.Core.Path.{ap, ◌∙◌}
use native.Mathlib.Omega.{arith}
use Rattle.twofish.proofs.blocks.load.Goals as goal

pub returns : goal.returns
unfolding block_of
returns c =
    let w = c.first-w.result in
    blocks {t = block_of w}
    (c.word_at.ensures ∙ ap number_low (four_at_lem w 0 (omega arith)))
    (c.word_at-2.ensures ∙ ap number_low (four_at_lem w 4 (omega arith)))
    (c.word_at-3.ensures ∙ ap number_low (four_at_lem w 8 (omega arith)))
    (c.word_at-4.ensures ∙ ap number_low (four_at_lem w 12 (omega arith)))
    ∙ ap block_of c.first-w.ensures
    ∙ block_of_first c.args.b.now
