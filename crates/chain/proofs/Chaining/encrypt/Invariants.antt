-- `chain::Chaining::encrypt` meets its contract: after j turns the memory has the definition's first j cipher blocks, and then what is left of the text.
use Rattle.std.proofs.Common.{◌-◌, ◌*◌, ◌/◌, length}
use Rattle.twofish.specs.Twofish.{block_bytes}
use Rattle.twofish.specs.Tabled.{tabled_encrypt}
use Rattle.chain.proofs.Turns.{Encrypting}
use Rattle.chain.proofs.Chaining.encrypt.Given as goal

abbrev pub invariant-loop-j : goal.invariant-loop-j
invariant-loop-j l =
    let n = length l.initial.work / 16 in
    Encrypting l.self.mode (tabled_encrypt l.self.schedule.now) n (block_bytes l.initial.prev) l.initial.work (n - l.j) (16 * l.j) l.work l.prev
