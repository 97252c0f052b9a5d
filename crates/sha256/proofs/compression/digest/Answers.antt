-- `sha256::compression::digest` meets its contract: the bytes of each word in turn, which are 32.
use Rattle.std.proofs.Common.{◌≡◌, ℕ, [], map, slice_index, ◌∙◌, ap, append-nil, rules}
use Rattle.std.proofs.lemmas.List.FromFn.{fill_by_all}
use Rattle.std.specs.List.{flat_map, range_with_len}
use Rattle.words.specs.Numbers.{bytes_high}
use Rattle.words.specs.Slices.{zeros, copied}
use Rattle.words.proofs.Conversions.{to_be_word}
use Rattle.words.proofs.SliceLaws.{copied_whole}
use Rattle.sha256.specs.Sha256.{digest_of}
use Rattle.sha256.proofs.Digest.{digest_sized}
use Rattle.sha256.proofs.compression.digest.Goals as goal

pub returns : goal.returns
unfolding digest_of
returns c =
    let v = c.args.v in
    let n = c.map.ensures.items in
    let m : c.map.result ≡ map (λ (k : ℕ). bytes_high 4 (slice_index v k)) (range_with_len 0 8) =
    fill_by_all (λ (k : ℕ). bytes_high 4 (slice_index v k)) c.map.result 8 [] n.long (λ k h. let z = n.at k 0 [] h in let w = to_be_word (slice_index v k) in search rules) in
    let f : c.as_flattened.result.now ≡ digest_of v = c.as_flattened.ensures.value ∙ ap (flat_map (λ x. x)) m ∙ simp append-nil in
    c.first.ensures ∙ ap (copied (zeros 32)) f ∙ copied_whole 32 (digest_of v) (digest_sized v).long
