-- `twofish::key::subkeys` meets its contract: after i turns the first 2 i places hold the definition's subkeys.
use Rattle.words.specs.Table.{at, table}
use Rattle.twofish.specs.Key.{evens, odds, subkey, subkeys}
use Rattle.words.proofs.Tables.{table_more, is_table}
use Rattle.twofish.proofs.Pairs.{even, odd}
use mathlib.Core.Path.{◌≡◌, ap₂, ◌∙◌}
use mathlib.Core.List.{List}
use Prim.Native.Nat.{ℕ, ◌+◌, ◌*◌, ◌<◌}
use native.Mathlib.Omega.{arith}
use lib.ListN.{length, length-set, set}
use Rattle.twofish.proofs.key.subkeys.Goals as goal

pub loop-i-preserved : goal.loop-i-preserved
loop-i-preserved c =
    let l = c.loop-i in
    let e = c.every_other-e.result in
    let o = c.every_other-o.result in
    let p = at c.args.t0.now in
    let q = at c.args.t1.now in
    let f = subkey p q e o in
    let v = c.transformed-a.result.0 in
    let w = c.left.result in
    let x : v ≡ f (2 * l.i) = even p q e o l.i c.word_a.ensures c.word_b.ensures c.transformed-a.ensures.first in
    let y : w ≡ f (2 * l.i + 1) = odd p q e o l.i c.word_a.ensures c.word_b.ensures c.transformed-a.ensures.second c.left.ensures in
    let h : 2 * l.i < length l.k = omega arith in
    let h' : 2 * l.i + 1 < length (set l.k (2 * l.i) v) = simp length-set (omega arith) in (
      simp length-set l.invariant.0,
      λ j z. table_more f (set l.k (2 * l.i) v) (2 * l.i + 1) w h' y (table_more f l.k (2 * l.i) v h x l.invariant.1) j (omega arith),
    )

pub returns : goal.returns
unfolding subkeys evens odds
returns c =
    let l = c.loop-i in
    let p = at c.args.t0.now in
    let q = at c.args.t1.now in
    let e = c.every_other-e in
    let o = c.every_other-o in
    is_table 40 (subkey p q e.result o.result) l.k l.invariant.0 (λ j h. l.invariant.1 j (omega arith))
    ∙ ap₂ (λ (u v : List ℕ). table 40 (subkey p q u v)) e.ensures o.ensures
