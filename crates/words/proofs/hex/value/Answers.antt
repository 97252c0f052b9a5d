-- `words::hex::value` meets its contract: in each range of its `match` the definition is computed at every byte.
use Prim.Native.Nat.{◌-◌}
use native.Mathlib.Omega.{arith}
use Rattle.words.specs.Hex.{hex_value}
use Rattle.words.proofs.HexLaws.{between, digit_told, none_told}
use Rattle.words.proofs.hex.value.Goals as goal

pub returns-in-48-to-57 : goal.returns-in-48-to-57
unfolding hex_value
returns-in-48-to-57 c = digit_told c.args.b _ (omega (arith, between (λ k. k - 48) hex_value 48 58 tt c.args.b (omega arith) (omega arith))) (omega arith)

pub returns-in-65-to-70 : goal.returns-in-65-to-70
unfolding hex_value
returns-in-65-to-70 c = digit_told c.args.b _ (omega (arith, between (λ k. k - 55) hex_value 65 71 tt c.args.b (omega arith) (omega arith))) (omega arith)

pub returns-in-97-to-102 : goal.returns-in-97-to-102
unfolding hex_value
returns-in-97-to-102 c = digit_told c.args.b _ (omega (arith, between (λ k. k - 87) hex_value 97 103 tt c.args.b (omega arith) (omega arith))) (omega arith)

pub returns-in_default : goal.returns-in_default
unfolding hex_value
returns-in_default c = none_told c.args.b (omega (arith, between (λ k. 16) hex_value 0 48 tt c.args.b (omega arith) (omega arith)))

pub returns-in_default-2 : goal.returns-in_default-2
unfolding hex_value
returns-in_default-2 c = none_told c.args.b (omega (arith, between (λ k. 16) hex_value 58 65 tt c.args.b (omega arith) (omega arith)))

pub returns-in_default-3 : goal.returns-in_default-3
unfolding hex_value
returns-in_default-3 c = none_told c.args.b (omega (arith, between (λ k. 16) hex_value 71 97 tt c.args.b (omega arith) (omega arith)))

pub returns-in_default-4 : goal.returns-in_default-4
unfolding hex_value
returns-in_default-4 c = none_told c.args.b (omega (arith, between (λ k. 16) hex_value 103 256 tt c.args.b (omega arith) (omega arith)))
