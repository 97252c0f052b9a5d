-- `chain::Chaining::decrypt_singly` meets its contract: after j turns the memory has the definition's first j blocks of text, and then
-- the rest of the cipher text; the count has gone on by j.
use Rattle.std.proofs.Common.{◌≡◌, ◌+◌, ◌-◌, ◌*◌, ◌/◌, ◌%◌, ◌^◌, length}
use Rattle.twofish.specs.Twofish.{block_bytes}
use Rattle.twofish.specs.Tabled.{tabled_decrypt}
use Rattle.chain.proofs.Turns.{Decrypting}
use Rattle.chain.proofs.Chaining.decrypt_singly.Given as goal

abbrev pub invariant-loop-j : goal.invariant-loop-j
invariant-loop-j l =
    let n = length l.initial.work / 16 in
    Decrypting l.self.mode (tabled_decrypt l.self.schedule.now) n (block_bytes l.initial.prev) l.initial.work (n - l.j) (16 * l.j) l.work l.prev
    × (l.c ≡ (l.count + l.j) % 2 ^ 64)
