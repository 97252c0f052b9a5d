-- talc_replay and talc_standing: the answer of the first is one number, that of the record at fault; of the second five, whether the login is cancelled, and of cancels and reissues whether one has come and the time of the latest.
use Rattle.std.specs.Prelude.{ℕ, ◌≡◌, cond, ◌⊎◌, List, [], ◌∷◌, ◌++◌, eqb, length}
use Rattle.words.specs.Numbers.{Bytes}
use Rattle.replay.specs.Trace.{Event, events_of}
use Rattle.replay.specs.Replay.{replay_of, state_after, standing_of}
use Rattle.replay.specs.Answers.{replay_number, replay_numbers, standing_number, standing_numbers}
use Rattle.talcfeather.specs.Numbers.{in_bytes}

-- the state holds `before` at first
pub record TalcReplay (before trace : List ℕ) (number : ℕ) (state answer : List ℕ) : Type 0 where
  pub bytes : Bytes trace
  pub is_number : number ≡ replay_number (replay_of before trace)
  pub is_state : state ≡ state_after before trace
  pub is_answer : answer ≡ in_bytes (replay_numbers (replay_of before trace))

pub record TalcStanding (state uuid : List ℕ) (number : ℕ) (answer : List ℕ) : Type 0 where
  pub long : length uuid ≡ 16
  pub is_number : number ≡ standing_number (standing_of state uuid)
  pub is_answer : answer ≡ in_bytes (standing_numbers (standing_of state uuid))

-- a call of talc_replay, as its caller has it
pub record Traced : Type 0 where
  pub trace : List ℕ
  pub number : ℕ

-- calls one after the other, from the state `before` on
unfoldable pub TalcCalls : List ℕ → List Traced → List ℕ → Type 0
TalcCalls before [] after = after ≡ before
TalcCalls before (c ∷ cs) after =
    (between answer : List ℕ) × TalcReplay before c.trace c.number between answer × TalcCalls between cs after

-- "the traces accepted so far, taken together": those whose call returned 0
unfoldable pub held_by : List Traced → List Event
held_by [] = []
held_by (c ∷ cs) = cond (eqb c.number 0) (events_of c.trace) [] ++ held_by cs

-- every call returned 0
unfoldable pub AllZero : List Traced → Type 0
AllZero [] = Unit {0}
AllZero (c ∷ cs) = (c.number ≡ 0) × AllZero cs

-- the trace t is that of one of the calls
unfoldable pub TracedBy : List ℕ → List Traced → Type 0
TracedBy t [] = ⊥
TracedBy t (c ∷ cs) = (t ≡ c.trace) ⊎ TracedBy t cs
