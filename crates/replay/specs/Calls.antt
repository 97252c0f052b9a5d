-- What a call of `replay` and one of `standing` ensure, and calls one after the other.
use Rattle.std.specs.Prelude.{ℕ, ◌≡◌, true, ◌↔◌, ◌⊎◌, List, [], ◌∷◌, ◌++◌, length, Option, None, Some, Ok, Err}
use Rattle.words.specs.Numbers.{Bytes}
use Rattle.replay.specs.Trace.{Event, events_of}
use Rattle.replay.specs.Cancelled.{Held, IsLatest, Cancelled}
use Rattle.replay.specs.Replay.{Replayed, Stood, replay_of, state_after, standing_of}
use Rattle.replay.specs.declared.Login.{Login}

-- the state holds `before` at first, and `after` when the call is over
pub record Replays (before trace : List ℕ) (answer : Replayed) (after : List ℕ) : Type 0 where
  pub bytes : Bytes trace
  pub is_answer : answer ≡ replay_of before trace
  pub is_after : after ≡ state_after before trace

pub record Stands (state uuid : List ℕ) (answer : Stood) : Type 0 where
  pub long : length uuid ≡ 16
  pub is_answer : answer ≡ standing_of state uuid

-- a call of `replay`, as its caller has it
pub record Call : Type 0 where
  pub trace : List ℕ
  pub answer : Replayed

-- calls one after the other, from the state `before` on
unfoldable pub Calls : List ℕ → List Call → List ℕ → Type 0
Calls before [] after = after ≡ before
Calls before (c ∷ cs) after = (between : List ℕ) × Replays before c.trace c.answer between × Calls between cs after

-- the events of a trace, if it was accepted
abbrev pub if_accepted : Replayed → List Event → List Event
if_accepted (Ok x) es = es
if_accepted (Err e) es = []

-- "the traces accepted so far, taken together"
unfoldable pub accepted : List Call → List Event
accepted [] = []
accepted (c ∷ cs) = if_accepted c.answer (events_of c.trace) ++ accepted cs

-- every call was accepted
unfoldable pub AllAccepted : List Call → Type 0
AllAccepted [] = Unit {0}
AllAccepted (c ∷ cs) = (c.answer ≡ Ok tt) × AllAccepted cs

-- the trace t is that of one of the calls
unfoldable pub TraceOf : List ℕ → List Call → Type 0
TraceOf t [] = ⊥
TraceOf t (c ∷ cs) = (t ≡ c.trace) ⊎ TraceOf t cs

-- the latest event of kind k of the login u, if there is one
abbrev pub LatestIs : ℕ → List ℕ → List Event → Option ℕ → Type 0
LatestIs k u es None = (e : Event) → Held k u es e → ⊥
LatestIs k u es (Some x) = IsLatest k u es x

-- how the login u stands after the events es
pub record StandsAs (u : List ℕ) (es : List Event) (l : Login) : Type 0 where
  pub cancelled : (l.cancelled ≡ true) ↔ Cancelled u es
  pub cancel : LatestIs 2 u es l.cancel
  pub reissue : LatestIs 3 u es l.reissue
