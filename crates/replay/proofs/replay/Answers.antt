-- `replay::replay` meets its contract: bytes that are no state are left as they are, a state goes through both passes.
use mathlib.Core.Path.{sym, ◌∙◌}
use native.Mathlib.Omega.{arith}
use Rattle.words.proofs.ByteLaws.{bytes_of}
use Rattle.replay.proofs.AllOrNone.{not_a_state}
use Rattle.replay.proofs.Tidy.{is_tidy}
use Rattle.replay.proofs.replay.Goals as goal

pub returns-then-not-is_state : goal.returns-then-not-is_state
returns-then-not-is_state c = not_a_state c.args.state.now c.args.trace.now (bytes_of c.args.trace.now (λ i. omega (arith, c.type_inv.trace i))) (sym c.is_state.ensures ∙ c.if-not-is_state.true)

pub unwrap-requires : goal.unwrap-requires
unwrap-requires c = c.as_mut_array.ensures.variant.1 (is_tidy c.args.state.now (sym c.is_state.ensures ∙ c.if-not-is_state.false)).long
