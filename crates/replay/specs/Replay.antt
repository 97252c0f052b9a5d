-- What replaying a trace into a state gives, record by record, and what a state says of a login: of any bytes.
use Rattle.std.specs.Prelude.{ℕ, zero, suc, ◌-◌, Bool, false, cond, List, eqb, ltb, leb, length, take, Option, None, Some, Result, Ok, Err}
use Rattle.replay.specs.Trace.{record_at, count_of, fine}
use Rattle.replay.specs.State.{entry_at, cancel_of, reissue_of, tidy, is_state, put, place_of, found_in, noted}
use Rattle.replay.specs.declared.ReplayRefusal.{ReplayRefusal}
use Rattle.replay.specs.declared.ReplayRefusal.TheVariants as refusal
use Rattle.replay.specs.declared.Login.{Login}
use Rattle.replay.specs.declared.NotAState.{NotAState}

-- the answer to a trace: accepted, or why not
abbrev pub Replayed : Type 0
Replayed = Result (Unit {0}) ReplayRefusal

-- the answer for a login: how it stands, or that the bytes are no state
abbrev pub Stood : Type 0
Stood = Result Login NotAState

abbrev pub no_state : Stood
no_state = Err (record {})

-- the record r goes into the state s: it is fine, and its UUID has an entry or finds a free one
abbrev pub goes_in : List ℕ → List ℕ → Bool
goes_in s r = cond (fine r) (ltb (place_of s (take 16 r)) 4096) false

unfoldable pub with_record : List ℕ → List ℕ → List ℕ
with_record s r = put s (place_of s (take 16 r)) (noted (entry_at s (place_of s (take 16 r))) r)

-- the first n records of t, one after the other
unfoldable pub recorded_to : List ℕ → List ℕ → ℕ → List ℕ
recorded_to s t zero = s
recorded_to s t (suc n) = with_record (recorded_to s t n) (record_at t n)

-- of the first n records: accepted, or the first at fault
abbrev pub then : Replayed → Bool → ℕ → Replayed
then (Ok x) g n = cond g (Ok x) (Err (refusal.Record n))
then (Err e) g n = Err e

unfoldable pub answered_to : List ℕ → List ℕ → ℕ → Replayed
answered_to s t zero = Ok tt
answered_to s t (suc n) = then (answered_to s t n) (goes_in (recorded_to s t n) (record_at t n)) n

unfoldable pub replay_of : List ℕ → List ℕ → Replayed
replay_of s t = cond (is_state s) (answered_to s t (count_of t)) (Err refusal.NotAState)

-- all records, or none
abbrev pub left_by : Replayed → List ℕ → List ℕ → List ℕ
left_by (Ok x) s t = recorded_to s t (count_of t)
left_by (Err e) s t = s

unfoldable pub state_after : List ℕ → List ℕ → List ℕ
state_after s t = left_by (replay_of s t) s t

-- what a mark says, and two
abbrev pub latest_of : ℕ → Option ℕ
latest_of m = cond (ltb m 8589934592) None (Some (m - 8589934592))

abbrev pub closed : ℕ → ℕ → Bool
closed c d = cond (ltb c 8589934592) false (leb d c)

abbrev pub login_of : ℕ → ℕ → Login
login_of c d = record { cancelled = closed c d; cancel = latest_of c; reissue = latest_of d }

abbrev pub told_of : List ℕ → Stood
told_of e = cond (tidy e) (Ok (login_of (cancel_of e) (reissue_of e))) no_state

-- the login whose look-up ends at an entry, and one that never came
abbrev pub told_at : List ℕ → Option ℕ → Stood
told_at s None = Ok (record { cancelled = false; cancel = None; reissue = None })
told_at s (Some k) = told_of (entry_at s k)

unfoldable pub standing_of : List ℕ → List ℕ → Stood
standing_of s u = cond (eqb (length s) 131072) (told_at s (found_in s u)) no_state
