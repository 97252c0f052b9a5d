-- `words::numbers::wide_at` meets its contract: eight bytes are two words, one after the other.
use mathlib.Core.Path.{sym, ap₂, ◌∙◌}
use Prim.Native.Nat.{ℕ, ◌+◌, ◌*◌, ◌^◌}
use Rattle.words.proofs.Places.{two_words}
use Rattle.words.proofs.numbers.wide_at.Goals as goal

pub returns : goal.returns
returns c =
    c.joined.ensures ∙ ap₂ (λ (a b : ℕ). a + 2 ^ 32 * b) c.word_at.ensures c.word_at-2.ensures ∙ sym (two_words c.args.s.now c.args.p c.requires)
