-- `sha256::compression::compress` meets its contract: eight rounds at a time are all rounds.
use Rattle.std.proofs.Common.{◌≡◌, ℕ, ◌/◌, List, length, refl, ap, ◌∙◌, take_at, arith, rules}
use Rattle.std.proofs.lemmas.Iterator.{YieldsList-from_slice, YieldsList-from_zip}
use Rattle.std.proofs.lemmas.Iterator.Consumers.{fold_from_yields_List}
use Rattle.sha256.specs.Sha256.{ks, rounds_of, schedule_of, sum_of, compress_of}
use Rattle.sha256.proofs.Schedule.{eights}
use Rattle.sha256.proofs.compression.compress.Goals as goal

pub returns : goal.returns
unfolding compress_of ks
returns c =
    let v = c.args.v in
    let w : List ℕ = schedule_of c.args.m in
    let s : c.extend.new.w ≡ w = c.extend.ensures ∙ ap schedule_of (take_at c.copy_from_slice.new.self _ 16 c.copy_from_slice.ensures.len ∙ c.copy_from_slice.ensures.after) in
    let n : length c.extend.new.w / 8 ≡ 8 = omega arith in
    let x =
    fold_from_yields_List _ (λ v p. rounds_of p.0 p.1 v) _ _ c.fold-x.ensures.ran
    (YieldsList-from_zip (YieldsList-from_slice c.as_chunks.result.0.now cc) (YieldsList-from_slice c.as_chunks-2.result.0.now cc))
    (λ v p r f k. search rules) in
    let e : c.fold-x.result ≡ rounds_of ks w v = rw (x, c.as_chunks.ensures.front, c.as_chunks-2.ensures.front, n, s) (eights 8 ks w v refl) in
    c.sum.ensures ∙ ap (λ (r : List ℕ). sum_of r v) e
