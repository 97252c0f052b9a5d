-- When a trace is accepted that comes after the events es, and which record is the first at fault (document 02, Q-8). Nothing here speaks of the state.
use Rattle.std.specs.Prelude.{ℕ, ◌<◌, ◌≤◌, ◌≡◌, Bool, true, false, cond, List, [], ◌∷◌, ◌++◌, leb, length}
use Rattle.words.specs.Slices.{same}
use Rattle.replay.specs.Trace.{Event, record_at, count_of, event_of, fine, first_events, events_of}

-- the UUID u is one of us
unfoldable pub within : List ℕ → List (List ℕ) → Bool
within u [] = false
within u (v ∷ us) = cond (same v u) true (within u us)

-- u after the UUIDs us, where it is not one of them
abbrev pub joined : List (List ℕ) → List ℕ → List (List ℕ)
joined us u = cond (within u us) us (us ++ (u ∷ []))

-- the UUIDs of events of all kinds, each once: after those of us, and alone
unfoldable pub gathered : List (List ℕ) → List Event → List (List ℕ)
gathered us [] = us
gathered us (e ∷ es) = gathered (joined us e.uuid) es

abbrev pub distinct : List Event → List (List ℕ)
distinct es = gathered [] es

-- after the events es, the record r is no fault: it is fine, and needs no UUID beyond 4,096
unfoldable pub admits : List Event → List ℕ → Bool
admits es r = cond (fine r) (leb (length (distinct (es ++ (event_of r ∷ [])))) 4096) false

-- the same of record n of a trace
abbrev pub good : List Event → List ℕ → ℕ → Bool
good es t n = admits (es ++ first_events t n) (record_at t n)

-- accepted: every record is fine, and the UUIDs, with those of es, are at most 4,096
pub record Acceptable (es : List Event) (t : List ℕ) : Type 0 where
  pub fines : (k : ℕ) → k < count_of t → fine (record_at t k) ≡ true
  pub few : length (distinct (es ++ events_of t)) ≤ 4096

-- refused: record n is at fault, and none before it
pub record FirstFault (es : List Event) (t : List ℕ) (n : ℕ) : Type 0 where
  pub low : n < count_of t
  pub bad : good es t n ≡ false
  pub before : (k : ℕ) → k < n → good es t k ≡ true
