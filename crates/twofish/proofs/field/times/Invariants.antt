-- `twofish::field::times` meets its contract: the sum so far and what is left of the definition's sum, after n bits, make the product.
use Rattle.twofish.specs.Field.{◌⊕◌, times}
use mathlib.Core.Path.{◌≡◌}
use Prim.Native.Nat.{◌-◌}
use Rattle.twofish.proofs.field.times.Given as goal

abbrev pub invariant-loop : goal.invariant-loop
invariant-loop l = l.r ⊕ times 0x14D (8 - l.counter) l.x l.y ≡ times 0x14D 8 l.a l.b
