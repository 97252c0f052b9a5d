-- `probe::probe_repeated` meets its contract: no UUID has a number as large as the number of bytes, which stands for none.
use Prim.Native.Nat.{ℕ}
use mathlib.Core.List.{List}
use native.Mathlib.Omega.{arith}
use lib.ListN.{length}
use borrow.Author.Tests.{lt-ltb, le-ltb}
use Rattle.std.specs.Prelude.{Option, Some, None}
use Rattle.std.specs.Option.{unwrap_or}
use Rattle.uuids.specs.Uuids.{uuids_from, Repeats}
use Rattle.uuids.specs.Batches.{answer_of}
use Rattle.uuids.proofs.Steps.{few}
use Rattle.probe.proofs.probe_repeated.Goals as goal

told : (s : List ℕ) (from : ℕ) (r : Option ℕ) → Repeats (uuids_from s from) r → Repeats (uuids_from s from) (answer_of (unwrap_or r (length s)) (length s))
told s from None x = rw (le-ltb (length s) (length s) (omega arith)) x
told s from (Some i) x = rw (lt-ltb i (length s) (omega (arith, x.0, few s from))) x

pub returns : goal.returns
returns c =
    let a = c.args in
    rw c.unwrap_or.ensures (told a.body.now a.from _ c.repeated.ensures)
