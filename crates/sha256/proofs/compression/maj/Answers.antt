-- `sha256::compression::maj` meets its contract, by the law of its shorter form.
use Rattle.sha256.proofs.Bitwise.{majority}
use Rattle.sha256.proofs.compression.maj.Goals as goal

pub returns : goal.returns
returns c = majority c.args.x c.args.y c.args.z
