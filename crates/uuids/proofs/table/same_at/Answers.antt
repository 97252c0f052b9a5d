-- `uuids::table::same_at` meets its contract: 16 bytes are the same exactly when both halves are.
use mathlib.Core.Path.{sym, ap₂, ◌∙◌}
use native.Mathlib.Omega.{arith}
use lib.Dec.{eqb}
use Rattle.words.specs.Numbers.{Bytes}
use Rattle.words.proofs.ByteLaws.{bytes_of}
use Rattle.uuids.proofs.Same.{same_told}
use Rattle.uuids.proofs.table.same_at.Goals as goal

pub returns-then-wide_at : goal.returns-then-wide_at
returns-then-wide_at c =
    let a = c.args in
    let bytes : Bytes a.s.now = bytes_of a.s.now (λ i. omega (arith, c.type_inv.s i)) in
    same_told a.s.now bytes a.p a.q c.requires.0 c.requires.1 (eqb c.wide_at-then-wide_at.result c.wide_at-then-wide_at-2.result)
    (sym c.wide_at.ensures ∙ c.if-wide_at.true ∙ c.wide_at-2.ensures) (ap₂ eqb c.wide_at-then-wide_at.ensures c.wide_at-then-wide_at-2.ensures)
