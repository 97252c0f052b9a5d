-- `words::hex::digit` meets its contract: its digits are the definition's own.
use mathlib.Core.Path.{ap}
use Prim.Native.Nat.{ℕ}
use lib.ListN.{get_or}
use Rattle.words.specs.Hex.{lower_digits, hex_digit}
use Rattle.words.proofs.hex.digit.Goals as goal

pub returns : goal.returns
unfolding hex_digit
returns c = ap (λ (d : ℕ). get_or lower_digits d 0) c.from.ensures
