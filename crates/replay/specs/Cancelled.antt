-- Cancelled: "a cancel of it and no reissue with a time greater than its latest cancel" (document 02, Q-8), of the events of traces taken together. Nothing here speaks of the state.
use Rattle.std.specs.Prelude.{ℕ, ◌≤◌, ◌≡◌, List, [], ◌∷◌, ◌⊎◌}
use Rattle.replay.specs.Trace.{Event}

unfoldable pub In : Event → List Event → Type 0
In e [] = ⊥
In e (x ∷ es) = (e ≡ x) ⊎ In e es

-- e is an event of kind k of the login u, one of es
pub record Held (k : ℕ) (u : List ℕ) (es : List Event) (e : Event) : Type 0 where
  pub held : In e es
  pub of : e.uuid ≡ u
  pub is : e.kind ≡ k

-- there is an event of kind k of the login u, and the latest has the time x
pub record IsLatest (k : ℕ) (u : List ℕ) (es : List Event) (x : ℕ) : Type 0 where
  pub event : Event
  pub held : Held k u es event
  pub time : event.time ≡ x
  pub none_later : (e : Event) → Held k u es e → e.time ≤ x

pub record Cancelled (u : List ℕ) (es : List Event) : Type 0 where
  pub last : ℕ
  pub cancel : IsLatest 2 u es last
  pub no_reissue : (e : Event) → Held 3 u es e → e.time ≤ last

-- the same events, whatever their order and number
pub record Alike (es fs : List Event) : Type 0 where
  pub to : (e : Event) → In e es → In e fs
  pub from : (e : Event) → In e fs → In e es

-- the same but for edits
pub record AlikeButEdits (es fs : List Event) : Type 0 where
  pub to : (e : Event) → (e.kind ≡ 1 → ⊥) → In e es → In e fs
  pub from : (e : Event) → (e.kind ≡ 1 → ⊥) → In e fs → In e es
