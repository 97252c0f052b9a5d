-- What encryption and decryption leave in lent memory. A length that is no multiple of 16 is refused: no block is taken, and the memory stays.
use Rattle.std.specs.Prelude.{◌≡◌, ℕ, ◌*◌, ◌/◌, ◌%◌, ◌^◌, cond, List, ◌++◌, length, drop, ◌==◌, nat_le}
use Rattle.chain.specs.Modes.{encrypted}
use Rattle.chain.specs.Decryption.{Decryption, decryption, step, run}

-- the blocks of a memory
unfoldable pub whole_blocks : List ℕ → ℕ
whole_blocks l = cond (length l % 16 == 0) (length l / 16) 0

-- the memory l, encrypted in place
unfoldable pub encrypted_in_place : (List ℕ → List ℕ → List ℕ) → List ℕ → List ℕ → List ℕ
encrypted_in_place e prev l = encrypted e (whole_blocks l) prev l ++ drop (16 * whole_blocks l) l

-- the memory `to` after l is encrypted into its start; one that is too short stays
unfoldable pub encrypted_into : (List ℕ → List ℕ → List ℕ) → List ℕ → List ℕ → List ℕ → List ℕ
encrypted_into e prev l to = cond (nat_le (length l) (length to)) (encrypted e (whole_blocks l) prev l ++ drop (16 * whole_blocks l) to) to

-- the memory l, decrypted in place by one step a block, from an earlier count on
unfoldable pub decrypted_in_place : (List ℕ → List ℕ → List ℕ) → List ℕ → List ℕ → ℕ → Decryption
decrypted_in_place d prev l count = run (step d) (whole_blocks l) (decryption prev l count)

-- the memory and the count that a decryption hands on at the state s; the count has 64 bits, more than any memory has blocks
pub record Handed (s : Decryption) (memory : List ℕ) (count : ℕ) : Type 0 where
  pub text : memory ≡ s.done ++ s.rest
  pub blocks : count ≡ s.count % 2 ^ 64
