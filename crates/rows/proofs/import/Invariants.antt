-- `rows::import` meets its contract: what the rows ahead give is what the table gives.
use Prim.Native.Nat.{◌-◌}
use mathlib.Core.Path.{◌≡◌}
use Rattle.rows.specs.Import.{count_of, import_from, import_of}
use Rattle.rows.proofs.import.Given as goal

abbrev pub invariant-loop-number : goal.invariant-loop-number
invariant-loop-number l = import_of l.table ≡ import_from l.table l.number (count_of l.table - l.number)
