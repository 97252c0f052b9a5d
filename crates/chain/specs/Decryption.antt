-- Decryption by steps, each of which decrypts one block and counts it.
use Rattle.std.specs.Prelude.{ℕ, zero, suc, ◌+◌, List, [], ◌++◌, take, drop}

-- the cipher text left, the cipher block before it, the text so far, and the number of blocks decrypted
pub record Decryption : Type 0 where
  pub rest : List ℕ
  pub prev : List ℕ
  pub done : List ℕ
  pub count : ℕ

-- before the first block; the count goes on from that of an earlier stage
unfoldable pub decryption : List ℕ → List ℕ → ℕ → Decryption
decryption prev l count = record { rest = l; prev = prev; done = []; count = count }

-- one block more is decrypted, and counted
unfoldable pub step : (List ℕ → List ℕ → List ℕ) → Decryption → Decryption
step d s =
    record {
      rest = drop 16 s.rest;
      prev = take 16 s.rest;
      done = s.done ++ d s.prev (take 16 s.rest);
      count = s.count + 1;
    }

-- n steps
unfoldable pub run : {S : Type 0} → (S → S) → ℕ → S → S
run f zero s = s
run f (suc n) s = f (run f n s)
