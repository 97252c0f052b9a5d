-- The code's tests for the types that may occur once say the same of each type as the document's list: one computed test over the 256 types.
use Prim.Native.Nat.{ℕ, ◌<◌}
use mathlib.Core.Path.{◌≡◌, refl}
use mathlib.Core.Bool.{Bool, true, false, cond, ◌||◌}
use lib.Dec.{eqb, ltb}
use Rattle.std.proofs.lemmas.Bool.{agree_below_at}
use Rattle.words.specs.Members.{among}
use Rattle.body.specs.Tally.{once}

pub header_once : (k : ℕ) → k < 256
    → among k (once false) ≡ cond (ltb k 0x0c) true (cond (eqb k 0x0f) true (cond (eqb k 0x10) true (eqb k 0x13)))
unfolding once
header_once k h = agree_below_at (λ k. among k (once false)) (λ k. cond (ltb k 0x0c) true (cond (eqb k 0x0f) true (cond (eqb k 0x10) true (eqb k 0x13)))) 256 k refl h

pub record_once : (k : ℕ) → among k (once true) ≡ cond (eqb k 0x01) true (cond (eqb k 0x03) true (eqb k 0x06))
unfolding once
record_once k = by (eqb k 0x01) (eqb k 0x03) (eqb k 0x06)
  where
    by : (a b c : Bool) → a || (b || (c || false)) ≡ cond a true (cond b true c)
    by true b c = refl
    by false true c = refl
    by false false true = refl
    by false false false = refl
