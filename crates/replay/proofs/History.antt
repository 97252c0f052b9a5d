-- What calls leave, one after the other: the state means the events of the accepted traces, and an answer is the verdict over these. By recursion on the records, and on the calls.
use Prim.Native.Nat.{ℕ, zero, suc}
use mathlib.Core.Path.{◌≡◌, refl, sym, ap, subst, ◌∙◌}
use mathlib.Core.Bool.{Bool, true, false, cond}
use mathlib.Core.List.{List, [], ◌∷◌, ◌++◌, append_assoc, append-nil}
use Rattle.words.specs.Numbers.{Bytes}
use Rattle.replay.proofs.Fine.{record_bytes}
use Rattle.replay.specs.Trace.{Event, record_at, count_of, event_of, first_events, events_of}
use Rattle.replay.specs.Acceptance.{good}
use Rattle.std.specs.Prelude.{Ok, Err}
use Rattle.replay.specs.declared.ReplayRefusal.TheVariants.{NotAState}
use Rattle.replay.specs.Replay.{Replayed, goes_in, with_record, recorded_to, then, answered_to, left_by, replay_of, state_after}
use Rattle.replay.specs.Calls.{Replays, Call, Calls, if_accepted, accepted}
use Rattle.replay.proofs.Tidy.{tidy_is}
use Rattle.replay.proofs.Means.{Means, goes_admits, means_next}
use Rattle.replay.proofs.Verdicts.{never, verdict}

module _ (s : List ℕ) (es : List Event) (t : List ℕ) (v : Means s es) (b : Bytes t) where
  -- after n records the two verdicts agree, and as long as all are accepted the state means their events
  agrees : (n : ℕ) → (answered_to s t n ≡ verdict es t n) × (verdict es t n ≡ Ok tt → Means (recorded_to s t n) (es ++ first_events t n))
  unfolding answered_to recorded_to verdict first_events
  agrees zero = (refl, λ e. rw (append-nil es) v)
  agrees (suc n) = by (verdict es t n) (agrees n).0 (agrees n).1
    where
      x : List ℕ
      x = recorded_to s t n

      more : goes_in x (record_at t n) ≡ true → Means x (es ++ first_events t n) → Means (with_record x (record_at t n)) (es ++ (first_events t n ++ (event_of (record_at t n) ∷ [])))
      more g m =
          subst (Means (with_record x (record_at t n))) (append_assoc es (first_events t n) (event_of (record_at t n) ∷ []))
          (means_next x (es ++ first_events t n) (record_at t n) m (record_bytes t b n) g)

      by : (a : Replayed) → answered_to s t n ≡ a → (a ≡ Ok tt → Means x (es ++ first_events t n))
          → (then (answered_to s t n) (goes_in x (record_at t n)) n ≡ then a (good es t n) n)
          × (then a (good es t n) n ≡ Ok tt → Means (with_record x (record_at t n)) (es ++ (first_events t n ++ (event_of (record_at t n) ∷ []))))
      by (Ok x₁) e m = (ap (λ (c : Replayed). then c (goes_in x (record_at t n)) n) e ∙ ap (λ (g : Bool). then (Ok tt) g n) same_test, go (good es t n) refl)
        where
          same_test : goes_in x (record_at t n) ≡ good es t n
          same_test = goes_admits x (es ++ first_events t n) (record_at t n) (m refl) (record_bytes t b n)

          go : (g : Bool) → good es t n ≡ g → then (Ok tt) g n ≡ Ok tt → Means (with_record x (record_at t n)) (es ++ (first_events t n ++ (event_of (record_at t n) ∷ [])))
          go true g h = more (same_test ∙ g) (m refl)
          go false g h = never _ h
      by (Err f) e m = (ap (λ (c : Replayed). then c (goes_in x (record_at t n)) n) e, λ h. never f h)

  -- the answer is the verdict over the events
  pub replay_judges : replay_of s t ≡ verdict es t (count_of t)
  unfolding replay_of
  replay_judges = ap (λ (g : Bool). cond g (answered_to s t (count_of t)) (Err NotAState)) (tidy_is s v.sound.state) ∙ (agrees (count_of t)).0

  -- and the state means the events of what was accepted
  pub replay_means : Means (state_after s t) (es ++ if_accepted (replay_of s t) (events_of t))
  unfolding state_after
  replay_means = by (replay_of s t) replay_judges
    where
      by : (a : Replayed) → a ≡ verdict es t (count_of t) → Means (left_by a s t) (es ++ if_accepted a (events_of t))
      by (Ok x) e = (agrees (count_of t)).1 (sym e)
      by (Err f) e = rw (append-nil es) v

pub replay_after : (s : List ℕ) (es : List Event) {t z : List ℕ} {a : Replayed} → Means s es → Replays s t a z → Means z (es ++ if_accepted a (events_of t))
replay_after s es {t} v r = rw (r.is_after, r.is_answer) (replay_means s es t v r.bytes)

pub calls_mean : (cs : List Call) (s z : List ℕ) (es : List Event) → Means s es → Calls s cs z → Means z (es ++ accepted cs)
unfolding Calls accepted
calls_mean [] s z es v c = rw (c, append-nil es) v
calls_mean (x ∷ cs) s z es v c =
    let fs = if_accepted x.answer (events_of x.trace) in
    subst (Means z) (append_assoc es fs (accepted cs)) (calls_mean cs c.0 z (es ++ fs) (replay_after s es v c.1) c.2)
