-- How the code takes a trace in, in two passes: an entry that is kept for a new UUID waits, with 1 for its cancel mark, which no replay leaves; the second pass fills it, or it is swept away.
use Rattle.std.specs.Prelude.{ℕ, zero, suc, ◌*◌, ◌/◌, ◌<◌, ◌≡◌, Bool, true, false, cond, List, eqb, length, take, Result, Ok, Err}
use Rattle.words.specs.Slices.{zeros}
use Rattle.replay.specs.Trace.{record_at, count_of}
use Rattle.replay.specs.State.{entry_at, cancel_of, entry_of, put, place_of}
use Rattle.replay.specs.Replay.{goes_in, recorded_to}

abbrev pub waiting : List ℕ → List ℕ
waiting u = entry_of u 1 0

-- the entry e, kept for u where it is free
abbrev pub kept_for : List ℕ → List ℕ → List ℕ
kept_for u e = cond (eqb (cancel_of e) 0) (waiting u) e

unfoldable pub with_place : List ℕ → List ℕ → List ℕ
with_place s u = put s (place_of s u) (kept_for u (entry_at s (place_of s u)))

abbrev pub reserved_with : Bool → List ℕ → List ℕ → List ℕ
reserved_with x s r = cond x (with_place s (take 16 r)) s

-- the first n records of t, one after the other
unfoldable pub reserved_to : List ℕ → List ℕ → ℕ → List ℕ
reserved_to s t zero = s
reserved_to s t (suc n) = with_place (reserved_to s t n) (take 16 (record_at t n))

-- the first n records have places
pub record ReservesTo (s t : List ℕ) (n : ℕ) (state : List ℕ) : Type 0 where
  pub is_state : state ≡ reserved_to s t n
  pub goes : (k : ℕ) → k < n → goes_in (reserved_to s t k) (record_at t k) ≡ true

-- record n has none, and those before it do
pub record FaultAt (s t : List ℕ) (n : ℕ) (state : List ℕ) : Type 0 where
  pub so_far : ReservesTo s t n state
  pub low : n < count_of t
  pub stop : goes_in (reserved_to s t n) (record_at t n) ≡ false

-- every record has a place, or the first that has none is named
abbrev pub Reserves : List ℕ → List ℕ → Result (Unit {0}) ℕ → List ℕ → Type 0
Reserves s t (Ok x) state = ReservesTo s t (count_of t) state
Reserves s t (Err n) state = FaultAt s t n state

-- the entry e, free again where it waits
abbrev pub swept_at : List ℕ → List ℕ
swept_at e = cond (eqb (cancel_of e) 1) (zeros 32) e

unfoldable pub swept_to : List ℕ → ℕ → List ℕ
swept_to s zero = s
swept_to s (suc n) = put (swept_to s n) n (swept_at (entry_at (swept_to s n) n))

-- u has an entry
pub record Owned (s u : List ℕ) : Type 0 where
  pub low : place_of s u < 4096
  pub busy : cancel_of (entry_at s (place_of s u)) ≡ 0 → ⊥

-- every record of t is whole, and as they go in one after the other each UUID has an entry
pub record AllOwned (s t : List ℕ) : Type 0 where
  pub whole : length t ≡ 32 * (length t / 32)
  pub owned : (k : ℕ) → k < length t / 32 → Owned (recorded_to s t k) (take 16 (record_at t k))
