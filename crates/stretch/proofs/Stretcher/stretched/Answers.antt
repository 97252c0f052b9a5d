-- `stretch::Stretcher::stretched` meets its contract: each turn is one step more.
use Rattle.std.proofs.Common.{◌≡◌, ℕ, ◌+◌, refl, ap, ◌∙◌, add-one, arith}
use Rattle.stretch.specs.declared.Stretcher.{Stretcher}
use Rattle.stretch.specs.Stretch.{step_of, stretched_of}
use Rattle.stretch.proofs.Stretcher.stretched.Goals as goal

one_more : (i : ℕ) (s₀ : Stretcher) {s r : Stretcher} → s ≡ stretched_of i s₀ → r ≡ step_of s → r ≡ stretched_of (i + 1) s₀
unfolding stretched_of
one_more i s₀ e f = rw add-one (f ∙ ap step_of e)

pub loop-init : goal.loop-init
unfolding stretched_of
loop-init c = refl

pub loop-preserved : goal.loop-preserved
loop-preserved c = one_more c.loop.counter _ c.loop.invariant c.step-s.ensures

pub returns : goal.returns
returns c =
    let e : c.loop.counter ≡ c.args.n = omega arith in
    rw (← e) c.loop.invariant
