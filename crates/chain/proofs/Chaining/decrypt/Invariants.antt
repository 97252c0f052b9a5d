-- `chain::Chaining::decrypt` meets its contract: after j turns the memory has the definition's first 3 j blocks of text, and then the rest
-- of the cipher text, which `decrypt_singly` decrypts; the count has gone on by 3 j.
use Rattle.std.proofs.Common.{◌≡◌, ◌+◌, ◌-◌, ◌*◌, ◌/◌, ◌%◌, ◌^◌, length}
use Rattle.twofish.specs.Twofish.{block_bytes}
use Rattle.twofish.specs.Tabled.{tabled_decrypt}
use Rattle.chain.proofs.Turns.{Decrypting}
use Rattle.chain.proofs.Chaining.decrypt.Given as goal

abbrev pub invariant-loop-turn : goal.invariant-loop-turn
invariant-loop-turn l =
    let n = length l.initial.work / 16 in
    Decrypting l.self.mode (tabled_decrypt l.self.schedule.now) n (block_bytes l.initial.prev) l.initial.work (n - 3 * l.turn) (48 * l.turn) l.work l.prev
    × (l.c ≡ (l.count + 3 * l.turn) % 2 ^ 64)
