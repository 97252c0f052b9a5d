-- `twofish::tables::entry` meets its contract: a column alone, of what h makes of the byte.
use Rattle.words.specs.Table.{at}
use Rattle.twofish.proofs.Lookups.{entry_is}
use borrow.Author.Rules.{rules}
use Rattle.twofish.proofs.tables.entry.Goals as goal

pub returns : goal.returns
returns c =
    let a = c.args in
    cc (entry_is (at a.t0.now) (at a.t1.now) (λ i. search rules) (λ i. search rules) a.s.now a.j a.x)
