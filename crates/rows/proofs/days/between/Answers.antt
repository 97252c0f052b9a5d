-- `rows::days::between` meets its contract: the quotient is in 32 bits, and what these hold is the definition's.
use native.Mathlib.Omega.{arith}
use Rattle.rows.proofs.Rounding.{rounded_down}
use Rattle.rows.proofs.days.between.Goals as goal

pub returns : goal.returns
returns c =
    let q = c.div_euclid-days in
    rounded_down _ _ (omega arith) (omega arith) _ _ q.result _ c.from.ensures c.from-2.ensures (record { sfits = q.type_inv }) q.ensures c.cast_unsigned.ensures
