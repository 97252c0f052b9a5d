-- `words::numbers::byte` meets its contract: std's conversion gives the bytes of the definition.
use mathlib.Core.Path.{ap, ◌∙◌}
use mathlib.Core.List.{List}
use Prim.Native.Nat.{ℕ, ◌%◌}
use native.Mathlib.Omega.{arith}
use lib.ListN.{get_or}
use Rattle.words.proofs.Conversions.{to_le_word}
use Rattle.words.proofs.NumberLaws.{byte_is}
use Rattle.words.proofs.numbers.byte.Goals as goal

pub returns : goal.returns
returns c =
    ap (λ (l : List ℕ). get_or l (c.args.i % 4) 0) (c.to_le_bytes.ensures ∙ to_le_word c.args.x) ∙ byte_is 4 (c.args.i % 4) c.args.x (omega arith)
