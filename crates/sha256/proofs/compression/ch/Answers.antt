-- `sha256::compression::ch` meets its contract, by the law of its shorter form.
use Rattle.std.proofs.Common.{◌-◌, ◌^◌, arith}
use Rattle.sha256.proofs.Bitwise.{choice}
use Rattle.sha256.proofs.compression.ch.Goals as goal

pub returns : goal.returns
returns c = choice 32 c.args.x ((2 ^ 32 - 1) - c.args.x) c.args.y c.args.z (omega arith) (omega arith) (omega arith)
