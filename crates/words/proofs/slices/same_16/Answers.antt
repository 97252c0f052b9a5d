-- `words::slices::same_16` meets its contract: both halves, or the first alone where it differs, tell what the comparison does.
use mathlib.Core.Path.{sym, ap₂, ◌∙◌}
use native.Mathlib.Omega.{arith}
use lib.Dec.{eqb}
use Rattle.words.specs.Numbers.{Bytes}
use Rattle.words.proofs.ByteLaws.{bytes_of}
use Rattle.words.proofs.Halves.{same_then, same_else}
use Rattle.words.proofs.slices.same_16.Goals as goal

pub returns-then-wide_at : goal.returns-then-wide_at
returns-then-wide_at c =
    let a = c.args.a.now in
    let b = c.args.b.now in
    let p : Bytes a = bytes_of a (λ i. omega (arith, c.fits-a i)) in
    let q : Bytes b = bytes_of b (λ i. omega (arith, c.fits-b i)) in
    ap₂ eqb c.wide_at-then-wide_at.ensures c.wide_at-then-wide_at-2.ensures
    ∙ same_then a b p q c.told-a c.told-b (sym c.wide_at.ensures ∙ (c.if-wide_at.true ∙ c.wide_at-2.ensures))

pub returns-else-wide_at : goal.returns-else-wide_at
returns-else-wide_at c =
    let a = c.args.a.now in
    let b = c.args.b.now in
    let p : Bytes a = bytes_of a (λ i. omega (arith, c.fits-a i)) in
    let q : Bytes b = bytes_of b (λ i. omega (arith, c.fits-b i)) in
    ap₂ eqb c.wide_at.ensures c.wide_at-2.ensures
    ∙ same_else a b p q c.told-a c.told-b (λ e. c.if-wide_at.false (c.wide_at.ensures ∙ (e ∙ sym c.wide_at-2.ensures)))
