-- `twofish::field::twice` meets its contract: computed at every byte.
use Rattle.twofish.specs.Field.{◌⊕◌, twice}
use Rattle.words.proofs.Every.{agree}
use mathlib.Core.Path.{◌≡◌, sym}
use mathlib.Core.Bool.{cond}
use Prim.Native.Nat.{ℕ, ◌*◌, ◌%◌, ◌<◌}
use lib.Dec.{ltb}
use borrow.Author.Tests.{lt-ltb, le-ltb}
use Rattle.twofish.proofs.field.twice.Goals as goal

byte : (a : ℕ) → a < 256 → cond (ltb (2 * a) 256) (2 * a) ((2 * a ⊕ 0x14D) % 256) ≡ twice 0x14D a
unfolding twice
byte = agree (λ a. cond (ltb (2 * a) 256) (2 * a) ((2 * a ⊕ 0x14D) % 256)) (twice 0x14D) 256 tt

pub returns-then-x-lt256 : goal.returns-then-x-lt256
unfolding twice
returns-then-x-lt256 c = simp (lt-ltb _ _ c.if-x-lt256.true)

pub returns-else-x-lt256 : goal.returns-else-x-lt256
returns-else-x-lt256 c =
    let a = c.args.a in
    sym (rw (← byte a c.ranges.a.fits, le-ltb _ _ c.if-x-lt256.false))
