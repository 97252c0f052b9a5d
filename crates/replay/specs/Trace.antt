-- A trace: "records of 32 bytes without a header holding UUID, 4-byte time, a one-byte kind (1 edit, 2 cancel, 3 reissue) and 11 zeros" (document 02, Q-8). Nothing here speaks of the state.
use Rattle.std.specs.Prelude.{ℕ, zero, suc, ◌+◌, ◌*◌, ◌/◌, Bool, true, false, cond, List, [], ◌∷◌, ◌++◌, eqb, length, get_or, take, drop}
use Rattle.words.specs.Numbers.{number_low}
use Rattle.words.specs.Slices.{zeros, same}

-- the bytes of record n, from 0; fewer than 32 where it is cut
abbrev pub record_at : List ℕ → ℕ → List ℕ
record_at t n = take 32 (drop (32 * n) t)

-- how many records a trace has, a cut one included
abbrev pub count_of : List ℕ → ℕ
count_of t = (length t + 31) / 32

-- 1 edit, 2 cancel, 3 reissue
abbrev pub known : ℕ → Bool
known k = cond (eqb k 1) true (cond (eqb k 2) true (eqb k 3))

-- whole, of a known kind, with a zero pad
unfoldable pub fine : List ℕ → Bool
fine r = cond (eqb (length r) 32) (cond (known (get_or r 20 0)) (same (drop 21 r) (zeros 11)) false) false

-- what a record says
pub record Event : Type 0 where
  pub uuid : List ℕ
  pub time : ℕ
  pub kind : ℕ

abbrev pub event_of : List ℕ → Event
event_of r = record { uuid = take 16 r; time = number_low (take 4 (drop 16 r)); kind = get_or r 20 0 }

-- what the first n records of a trace say, and what all of them say
unfoldable pub first_events : List ℕ → ℕ → List Event
first_events t zero = []
first_events t (suc n) = first_events t n ++ (event_of (record_at t n) ∷ [])

abbrev pub events_of : List ℕ → List Event
events_of t = first_events t (count_of t)
