-- `stretch::first::block` meets its contract, byte by byte.
use Rattle.std.proofs.Common.{◌≡◌, ℕ, ◌+◌, ◌*◌, ◌++◌, length, get_or, ◌∙◌, arith, rules}
use Rattle.sha256.specs.Sha256.{padded}
use Rattle.words.proofs.FromFn.{from_fn_is}
use Rattle.stretch.proofs.FirstBlocks.{block_is, room_left}
use Rattle.stretch.proofs.first.block.Goals as goal

pub returns : goal.returns
returns c =
    let p = c.args.p.now in
    let s = c.args.s.now in
    let q = c.args.q in
    let h = c.requires in
    let l : length s ≡ 32 = search rules in
    from_fn_is _ _ (λ (i : ℕ). get_or (padded (p ++ s)) (64 * q + i) 0) 64 (λ i y q l k. search rules) _ c.from_fn.ensures.items
    ∙ block_is (padded (p ++ s)) q (room_left p s q (omega arith))
