-- The promises of document 02's Q-8, of calls of `talc_replay` and `talc_standing` as they ship, each taken by its contract alone: what is said of every call of `replay` and `standing` (replay, Promises.antt and Order.antt), carried over.
use Prim.Native.Nat.{ℕ, ◌≤◌}
use mathlib.Core.Path.{◌≡◌, refl, sym, ap, ap₂, subst, ◌∙◌}
use mathlib.Core.Bool.{true, false, cond}
use mathlib.Core.Logic.{◌↔◌, ⊎_elim, inl, inr}
use mathlib.Core.List.{List, [], ◌∷◌, ◌++◌}
use native.Mathlib.Omega.{arith}
use lib.Dec.{eqb}
use Rattle.replay.specs.Trace.{Event, events_of}
use Rattle.replay.specs.Cancelled.{Held, Alike, AlikeButEdits}
use Rattle.replay.specs.Acceptance.{Acceptable, FirstFault}
use Rattle.replay.specs.State.{is_state, fresh}
use Rattle.std.specs.Prelude.{Ok, Err}
use Rattle.replay.specs.Replay.{Replayed, Stood, replay_of, standing_of}
use Rattle.replay.specs.Answers.{replay_number, replay_numbers, standing_number, standing_numbers}
use Rattle.replay.specs.Calls.{Replays, Stands, Call, Calls, if_accepted, accepted, AllAccepted, TraceOf, StandsAs}
use Rattle.replay.specs.declared.ReplayRefusal.TheVariants.{Record, NotAState}
use Rattle.replay.specs.declared.Login.{Login}
use Rattle.replay.proofs.Marks.{cancelled_by, cancelled_but_edits}
use Rattle.replay.proofs.Promises as promises
use Rattle.replay.proofs.Order as order
use Rattle.talcfeather.specs.Numbers.{in_bytes}
use Rattle.talcfeather.specs.Trace.{TalcReplay, TalcStanding, Traced, TalcCalls, held_by, AllZero, TracedBy}

-- a call, with the answer that its number and its bytes are of
as_replay : {before t after answer : List ℕ} {n : ℕ} → TalcReplay before t n after answer → Replays before t (replay_of before t) after
as_replay c = record { bytes = c.bytes; is_answer = refl; is_after = c.is_state }

as_standing : {s u answer : List ℕ} {n : ℕ} → TalcStanding s u n answer → Stands s u (standing_of s u)
as_standing c = record { long = c.long; is_answer = refl }

-- 0 is an acceptance
zero_accepted : (a : Replayed) → replay_number a ≡ 0 → a ≡ Ok tt
zero_accepted (Ok x) e = refl
zero_accepted (Err (Record m)) e = absurd (omega arith)
zero_accepted (Err NotAState) e = absurd (omega arith)

if_zero : (a : Replayed) (es : List Event) → cond (eqb (replay_number a) 0) es [] ≡ if_accepted a es
if_zero (Ok x) es = refl
if_zero (Err (Record m)) es = refl
if_zero (Err NotAState) es = refl

-- the same calls, by their answers
record AsCalls (s : List ℕ) (cs : List Traced) (z : List ℕ) : Type 0 where
  calls : List Call
  are : Calls s calls z
  held : accepted calls ≡ held_by cs
  all : AllZero cs ↔ AllAccepted calls
  traces : (t : List ℕ) → TracedBy t cs ↔ TraceOf t calls

as_calls : (cs : List Traced) (s z : List ℕ) → TalcCalls s cs z → AsCalls s cs z
unfolding TalcCalls Calls accepted held_by AllZero AllAccepted TracedBy TraceOf
as_calls [] s z c = record { calls = []; are = c; held = refl; all = (λ x. x, λ x. x); traces = λ t. (λ x. x, λ x. x) }
as_calls (x ∷ cs) s z c =
    let r = c.2 in
    let h = as_calls cs c.0 z c.3 in
    let a = replay_of s x.trace in
    record {
      calls = record { trace = x.trace; answer = a } ∷ h.calls;
      are = (c.0, as_replay r, h.are);
      held = ap₂ ◌++◌ (sym (if_zero a (events_of x.trace)) ∙ ap (λ (n : ℕ). cond (eqb n 0) (events_of x.trace) []) (sym r.is_number)) h.held;
      all = (λ y. (zero_accepted a (sym r.is_number ∙ y.0), h.all.0 y.1), λ y. (r.is_number ∙ ap replay_number y.0, h.all.1 y.1));
      traces = λ t. (⊎_elim (λ e. inl e) (λ o. inr ((h.traces t).0 o)), ⊎_elim (λ e. inl e) (λ o. inr ((h.traces t).1 o)));
    }

module _ (cs : List Traced) (s : List ℕ) (c : TalcCalls fresh cs s) where
  abbrev ds : List Call
  ds = (as_calls cs fresh s c).calls

  are : Calls fresh ds s
  are = (as_calls cs fresh s c).are

  held : accepted ds ≡ held_by cs
  held = (as_calls cs fresh s c).held

  -- Q8.a "From a fresh state, a login is cancelled exactly when the traces accepted so far, taken together, hold a cancel of it and no reissue with a time greater than its latest cancel."
  pub stands_as : {u answer : List ℕ} {n : ℕ} → TalcStanding s u n answer
      → (l : Login) × (n ≡ 0) × (answer ≡ in_bytes (standing_numbers (Ok l))) × StandsAs u (held_by cs) l
  stands_as {u} h =
      let t = promises.stands_as ds s are u (standing_of s u) (as_standing h) in (
        t.0,
        h.is_number ∙ ap standing_number t.1,
        h.is_answer ∙ ap (λ (a : Stood). in_bytes (standing_numbers a)) t.1,
        subst (λ (es : List Event). StandsAs u es t.0) held t.2,
      )

  -- Q8.e "Equal times leave it cancelled.": a cancel than which no reissue is later, though one may have its time.
  pub equal_stays : {u answer : List ℕ} {n : ℕ} (h : TalcStanding s u n answer) (e : Event) → Held 2 u (held_by cs) e
      → ((x : Event) → Held 3 u (held_by cs) x → x.time ≤ e.time) → (stands_as h).0.cancelled ≡ true
  equal_stays {u} h e a f = (stands_as h).3.cancelled.1 (cancelled_by u (held_by cs) e a f)

  module _ {t after answer : List ℕ} {n : ℕ} (r : TalcReplay s t n after answer) where
    -- Q8.b "A trace with an unknown kind, a cut record or a non-zero pad is refused"; "At most 4,096 UUIDs, over all kinds and accepted traces": these alone are refused.
    pub accepted_exactly : (n ≡ 0) ↔ Acceptable (held_by cs) t
    accepted_exactly =
        let p = promises.accepted_exactly ds s are (as_replay r) in (
          λ e. subst (λ (es : List Event). Acceptable es t) held (p.0 (zero_accepted (replay_of s t) (sym r.is_number ∙ e))),
          λ f. r.is_number ∙ ap replay_number (p.1 (subst (λ (es : List Event). Acceptable es t) (sym held) f)),
        )

    -- Q8.c "refused as 16 with the number of its first such record"; "the first record that needs one more is refused likewise"
    pub refused_with : (m : ℕ) → FirstFault (held_by cs) t m → (n ≡ 16) × (answer ≡ in_bytes (m ∷ []))
    refused_with m f =
        let e = (promises.refused_exactly ds s are (as_replay r) m).1 (subst (λ (es : List Event). FirstFault es t m) (sym held) f) in
        (r.is_number ∙ ap replay_number e, r.is_answer ∙ ap (λ (a : Replayed). in_bytes (replay_numbers a)) e)

    pub refused_only : (n ≡ 0 → ⊥) → (m : ℕ) × FirstFault (held_by cs) t m
    refused_only h = by (replay_of s t) refl
      where
        by : (a : Replayed) → replay_of s t ≡ a → (m : ℕ) × FirstFault (held_by cs) t m
        by (Ok x) e = absurd (h (r.is_number ∙ ap replay_number e))
        by (Err (Record m)) e = (m, subst (λ (es : List Event). FirstFault es t m) held ((promises.refused_exactly ds s are (as_replay r) m).0 e))
        by (Err NotAState) e = absurd (promises.always_a_state ds s are (as_replay r) e)

-- Q8.c "and the standing of every login stays what it was": of any bytes, no byte changes unless the trace is accepted.
pub refused_unchanged : {before t after answer : List ℕ} {n : ℕ} → TalcReplay before t n after answer → (n ≡ 0 → ⊥) → after ≡ before
refused_unchanged r h = promises.refused_unchanged (as_replay r) (λ e. h (r.is_number ∙ ap replay_number e))

-- Q8.f: 19 exactly of bytes that are no state; what is left of a state is one.
nineteen : (a : Replayed) → replay_number a ≡ 19 → a ≡ Err NotAState
nineteen (Ok x) e = absurd (omega arith)
nineteen (Err (Record m)) e = absurd (omega arith)
nineteen (Err NotAState) e = refl

module _ {before t after answer : List ℕ} {n : ℕ} (r : TalcReplay before t n after answer) where
  pub no_state_exactly : (n ≡ 19) ↔ (is_state before ≡ false)
  no_state_exactly =
      let p = promises.no_state_exactly (as_replay r) in
      (λ e. p.0 (nineteen (replay_of before t) (sym r.is_number ∙ e)), λ h. r.is_number ∙ ap replay_number (p.1 h))

  pub leaves_a_state : is_state before ≡ true → is_state after ≡ true
  leaves_a_state = promises.leaves_a_state (as_replay r)

module _ (cs ds : List Traced) (s z : List ℕ) (c : TalcCalls fresh cs s) (d : TalcCalls fresh ds z) where
  abbrev i : AsCalls fresh cs s
  i = as_calls cs fresh s c

  abbrev j : AsCalls fresh ds z
  j = as_calls ds fresh z d

  alike : {u a b : List ℕ} {m n : ℕ} → TalcStanding s u m a → TalcStanding z u n b → standing_of s u ≡ standing_of z u → (m ≡ n) × (a ≡ b)
  alike x y e = (x.is_number ∙ ap standing_number e ∙ sym y.is_number, x.is_answer ∙ ap (λ (k : Stood). in_bytes (standing_numbers k)) e ∙ sym y.is_answer)

  -- Q8.d "Over accepted traces the outcome for each UUID must not depend on the order in which tablets connect, nor on a record arriving twice.": the whole answer, times included.
  pub order_free : Alike (held_by cs) (held_by ds) → {u a b : List ℕ} {m n : ℕ} → TalcStanding s u m a → TalcStanding z u n b → (m ≡ n) × (a ≡ b)
  order_free h {u} x y =
      let k : Alike (accepted i.calls) (accepted j.calls) = rw (i.held, j.held) h in
      alike x y (promises.order_free i.calls j.calls s z i.are j.are k u (standing_of s u) (standing_of z u) (as_standing x) (as_standing y))

  -- Q8.e "Edits never reopen.": with and without edits, in either direction.
  pub edits_never : AlikeButEdits (held_by cs) (held_by ds) → {u a b : List ℕ} {m n : ℕ} (x : TalcStanding s u m a) (y : TalcStanding z u n b)
      → (stands_as cs s c x).0.cancelled ≡ true → (stands_as ds z d y).0.cancelled ≡ true
  edits_never h {u} x y k =
      (stands_as ds z d y).3.cancelled.1 (cancelled_but_edits u (held_by cs) (held_by ds) h ((stands_as cs s c x).3.cancelled.0 k))

  -- Q8.d: of traces that are all accepted, any are accepted in any order and any number; and where they are the same traces, every login has the same standing
  module _ (h : AllZero cs) (f : (t : List ℕ) → TracedBy t ds → TracedBy t cs) where
    to : (t : List ℕ) → TraceOf t j.calls → TraceOf t i.calls
    to t o = (i.traces t).0 (f t ((j.traces t).1 o))

    pub any_order : AllZero ds
    any_order = j.all.1 (order.any_order i.calls j.calls s z i.are j.are (i.all.0 h) to)

    pub tablets : {u a b : List ℕ} {m n : ℕ} → ((t : List ℕ) → TracedBy t cs → TracedBy t ds) → TalcStanding s u m a → TalcStanding z u n b → (m ≡ n) × (a ≡ b)
    tablets {u} g x y =
        let t = order.tablets i.calls j.calls s z i.are j.are (i.all.0 h) to (λ t o. (j.traces t).0 (g t ((i.traces t).1 o))) in
        alike x y (t.1 u (standing_of s u) (standing_of z u) (as_standing x) (as_standing y))
