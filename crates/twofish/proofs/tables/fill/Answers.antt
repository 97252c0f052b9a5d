-- `twofish::tables::fill` meets its contract: after x turns the first x places hold their entries.
use Rattle.words.specs.Table.{at}
use Rattle.twofish.specs.Tabled.{entry, filled}
use Rattle.words.proofs.Tables.{table_more, is_table}
use native.Mathlib.Omega.{arith}
use lib.ListN.{length-set}
use Rattle.twofish.proofs.tables.fill.Goals as goal

pub loop-x-preserved : goal.loop-x-preserved
loop-x-preserved c =
    let a = c.args in
    let o = c.loop-x in (
      simp length-set o.invariant.0,
      table_more (entry (at a.t0.now) (at a.t1.now) a.s.now a.j) o.r o.x c.entry.result (omega arith) c.entry.ensures o.invariant.1,
    )

pub returns : goal.returns
unfolding filled
returns c =
    let a = c.args in
    let o = c.loop-x in
    is_table 256 (entry (at a.t0.now) (at a.t1.now) a.s.now a.j) o.r o.invariant.0 (λ i h. o.invariant.1 i (omega arith))
