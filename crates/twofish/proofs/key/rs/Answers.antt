-- `twofish::key::rs` meets its contract: the sum so far, with what is left of the row and of the bytes, makes the product.
use Rattle.twofish.specs.Field.{◌⊕◌, gf, dot}
use Rattle.twofish.specs.Key.{eight}
use Rattle.words.specs.Table.{at}
use Rattle.std.proofs.Common.{drop_of_length-le}
use mathlib.Core.Path.{◌≡◌, refl, sym, ap, ◌∙◌}
use mathlib.Core.List.{List}
use Prim.Native.Nat.{ℕ, zero, suc, ◌+◌, ◌<◌}
use native.Mathlib.Nat.{add-zero}
use native.Mathlib.Numerals.{add-one}
use native.Mathlib.Omega.{arith}
use lib.ListN.{length, drop}
use lib.Seq.{drop-cons}
use Rattle.twofish.proofs.key.rs.Goals as goal

-- the eight bytes, one by one
at_eight : (m : List ℕ) (i k : ℕ) → k < 8 → at (eight m i) k ≡ at m (i + k)
at_eight m i zero h = ap (at m) (sym (add-zero i))
at_eight m i (suc zero) h = refl
at_eight m i (suc (suc zero)) h = refl
at_eight m i (suc (suc (suc zero))) h = refl
at_eight m i (suc (suc (suc (suc zero)))) h = refl
at_eight m i (suc (suc (suc (suc (suc zero))))) h = refl
at_eight m i (suc (suc (suc (suc (suc (suc zero)))))) h = refl
at_eight m i (suc (suc (suc (suc (suc (suc (suc zero))))))) h = refl
at_eight m i (suc (suc (suc (suc (suc (suc (suc (suc k)))))))) h = absurd (omega arith)

-- one product more
step : (sum k : ℕ) (row ys : List ℕ) → k < length row → k < length ys
    → dot 0x14D (sum ⊕ gf 0x14D (at row k) (at ys k)) (drop (k + 1) row) (drop (k + 1) ys) ≡ dot 0x14D sum (drop k row) (drop k ys)
step sum k row ys h h' = rw (drop-cons row k 0, drop-cons ys k 0, add-one) refl

pub loop-k-preserved : goal.loop-k-preserved
loop-k-preserved c =
    let l = c.loop-k in
    let a = c.args in
    let ys = eight a.m.now a.i in
    ap (λ (v : ℕ). dot 0x14D (l.sum ⊕ v) (drop (l.k + 1) a.row.now) (drop (l.k + 1) ys))
    (c.times-sum.ensures ∙ ap (gf 0x14D (at a.row.now l.k)) (sym (at_eight a.m.now a.i l.k (omega arith))))
    ∙ step l.sum l.k a.row.now ys (omega arith) (omega arith)
    ∙ l.invariant

pub returns : goal.returns
returns c =
    let l = c.loop-k in
    let a = c.args in
    ap (λ (r : List ℕ). dot 0x14D l.sum r (drop l.k (eight a.m.now a.i))) (sym (drop_of_length-le a.row.now {i = l.k} (omega arith)))
    ∙ l.invariant
