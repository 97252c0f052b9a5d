-- `sha256::compression::block` meets its contract, word by word.
use Rattle.std.proofs.Common.{ℕ, ◌*◌, drop, rules}
use lib.Seq.{drop-drop}
use Rattle.sha256.specs.Sha256.{word_of, words_of}
use Rattle.words.proofs.FromFn.{from_fn_is}
use Rattle.sha256.proofs.compression.block.Goals as goal

pub returns : goal.returns
unfolding words_of
returns c =
    simp drop-drop
    (from_fn_is _ _ (λ (k : ℕ). word_of (drop (4 * k) c.args.b.now)) 16 (λ i y q l k. search rules) _ c.from_fn.ensures.items)
