-- `twofish::field::times` meets its contract: the sum so far and what is left of the definition's sum, after n bits, make the product.
use Rattle.twofish.specs.Field.{◌⊕◌, gf, times, twice}
use Rattle.words.proofs.XorLaws.{xor_assoc}
use lib.Bits.{xor_zero_r}
use mathlib.Core.Path.{◌≡◌, ap, ◌∙◌}
use Prim.Native.Nat.{ℕ, suc, ◌+◌, ◌-◌, ◌*◌, ◌/◌, ◌%◌}
use native.Mathlib.Omega.{arith}
use Rattle.twofish.proofs.field.times.Goals as goal

-- one bit of the sum, where m are left and then n
step : (p m n x y r : ℕ) → suc n ≡ m → r ⊕ (y % 2 * x) ⊕ times p n (twice p x) (y / 2) ≡ r ⊕ times p m x y
unfolding times
step p m n x y r e = xor_assoc r (y % 2 * x) (times p n (twice p x) (y / 2)) ∙ ap (λ (k : ℕ). r ⊕ times p k x y) e

none : (p n x y r : ℕ) → n ≡ 0 → r ⊕ times p n x y ≡ r
unfolding times
none p n x y r e = ap (λ (m : ℕ). r ⊕ times p m x y) e ∙ xor_zero_r r

pub loop-preserved : goal.loop-preserved
loop-preserved c =
    let l = c.loop in
    let e : suc (8 - (l.counter + 1)) ≡ 8 - l.counter = omega arith in
    cc (step 0x14D (8 - l.counter) (8 - (l.counter + 1)) l.x l.y l.r e)

pub returns : goal.returns
unfolding gf
returns c =
    let l = c.loop in
    let e : 8 - l.counter ≡ 0 = omega arith in
    cc (none 0x14D (8 - l.counter) l.x l.y l.r e)
