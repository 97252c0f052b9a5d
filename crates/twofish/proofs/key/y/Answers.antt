-- `twofish::key::y` meets its contract: in each row of the order, table by table, as the definition goes.
use Rattle.twofish.specs.Field.{◌⊕◌}
use Rattle.twofish.specs.Key.{y0, y1, y2, y3}
use Rattle.twofish.specs.Tabled.{q, y}
use Rattle.twofish.specs.declared.key.TheConstants.{ORDER}
use Rattle.words.specs.Table.{at}
use mathlib.Core.Path.{◌≡◌, refl}
use mathlib.Core.List.{List, []}
use Prim.Native.Nat.{ℕ, zero, suc, ◌+◌}
use borrow.Author.Tests.{ne_eqb}
use native.Mathlib.Omega.{arith}
use Rattle.std.specs.Prelude.{min}
use lib.ListN.{get_or}
use Rattle.twofish.proofs.key.y.Goals as goal

module _ (q0 q1 : ℕ → ℕ) where
  -- the table that comes at place n in row j
  step : ℕ → ℕ → ℕ → ℕ
  unfolding q
  step j n = q q0 q1 (at (get_or ORDER j []) n)

  in_order : (l : List ℕ) (j x i : ℕ) → i ≡ min j 3
      → step i 4 (step i 3 (step i 2 (step i 1 (step i 0 x ⊕ at l (12 + i)) ⊕ at l (8 + i)) ⊕ at l (4 + i)) ⊕ at l i) ≡ y q0 q1 l j x
  unfolding step q y y0 y1 y2 y3
  in_order l zero x i e = rw e refl
  in_order l (suc zero) x i e = rw e refl
  in_order l (suc (suc zero)) x i e = rw e refl
  in_order l (suc (suc (suc j))) x i e =
      let k = suc (suc (suc j)) in
      let s : i ≡ 3 = omega arith in
      rw (s, ne_eqb k 0 (omega arith), ne_eqb k 1 (omega arith), ne_eqb k 2 (omega arith)) refl

pub returns : goal.returns
unfolding step
returns c =
    let a = c.args in
    cc (in_order (at a.t0.now) (at a.t1.now) a.l.now a.j a.x c.min-j.result c.min-j.ensures)
