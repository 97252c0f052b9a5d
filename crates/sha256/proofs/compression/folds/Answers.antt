-- `sha256::compression::folds` meets its contract: the iterator's fold over the chunks is the definition's.
use Rattle.std.proofs.Common.{refl, rules}
use Rattle.std.proofs.lemmas.Iterator.{YieldsList-from_slice}
use Rattle.std.proofs.lemmas.Iterator.Consumers.{fold_from_yields_List}
use Rattle.sha256.specs.Sha256.{words_of, compress_of}
use Rattle.sha256.specs.Running.{folds_of}
use Rattle.sha256.proofs.compression.folds.Goals as goal

pub returns : goal.returns
unfolding folds_of
returns c =
    let f =
    fold_from_yields_List _ (λ v b. compress_of v (words_of 16 b)) _ _ c.fold.ensures.ran (YieldsList-from_slice c.as_chunks.result.0.now cc)
    (λ v b r f k. search rules) in
    rw (f, c.as_chunks.ensures.front) refl
