-- The promises of a replay, sentence by sentence of document 02's Q-8, of calls of `replay` and `standing` as they ship, each taken by its contract alone (`Replays`, `Stands`): from the fresh state, after any calls, some of them refused.
use Prim.Native.Nat.{ℕ, ◌≤◌}
use mathlib.Core.Path.{◌≡◌, refl, sym, ap, ap₂, subst, ◌∙◌}
use mathlib.Core.Bool.{true, false}
use mathlib.Core.Logic.{◌↔◌}
use mathlib.Core.List.{List, []}
use Rattle.replay.specs.Trace.{Event, count_of}
use Rattle.replay.specs.Cancelled.{Held, Alike, AlikeButEdits}
use Rattle.replay.specs.Acceptance.{Acceptable, FirstFault}
use Rattle.replay.specs.State.{is_state, fresh}
use Rattle.std.specs.Prelude.{Ok, Err}
use Rattle.replay.specs.declared.ReplayRefusal.TheVariants.{Record, NotAState}
use Rattle.replay.specs.Replay.{Replayed, Stood, login_of, left_by, state_after}
use Rattle.replay.specs.Calls.{Replays, Stands, Call, Calls, accepted, StandsAs}
use Rattle.replay.specs.declared.Login.{Login}
use Rattle.replay.proofs.Marks.{mark_in, marks_alike, cancelled_by, cancelled_but_edits}
use Rattle.replay.proofs.Means.{Means, few}
use Rattle.replay.proofs.Fresh.{fresh_means}
use Rattle.replay.proofs.Verdicts.{accepted_fits, fits_accepted, refused_fault, fault_refused, verdict, verdict_state}
use Rattle.replay.proofs.History.{replay_judges, calls_mean}
use Rattle.replay.proofs.AllOrNone.{no_state, left_tidy}
use Rattle.replay.proofs.Telling.{told, ok_inj, marks_stand}

module _ (cs : List Call) (s : List ℕ) (c : Calls fresh cs s) where
  means : Means s (accepted cs)
  means = calls_mean cs fresh s [] fresh_means c

  -- Q8.a "From a fresh state, a login is cancelled exactly when the traces accepted so far, taken together, hold a cancel of it and no reissue with a time greater than its latest cancel."
  pub stands_as : (u : List ℕ) (a : Stood) → Stands s u a → (l : Login) × (a ≡ Ok l) × StandsAs u (accepted cs) l
  stands_as u a h = (login_of (mark_in 2 u (accepted cs)) (mark_in 3 u (accepted cs)), h.is_answer ∙ told s (accepted cs) u means, marks_stand u (accepted cs))

  -- the same of an answer that is taken apart
  said : (u : List ℕ) (l : Login) → Stands s u (Ok l) → StandsAs u (accepted cs) l
  said u l h = let t = stands_as u (Ok l) h in let e : t.0 ≡ l = ok_inj (sym t.1) in subst (StandsAs u (accepted cs)) e t.2

  -- one call more
  module _ {t after : List ℕ} {a : Replayed} (r : Replays s t a after) where
    judges : a ≡ verdict (accepted cs) t (count_of t)
    judges = r.is_answer ∙ replay_judges s (accepted cs) t means r.bytes

    -- Q8.b "A trace with an unknown kind, a cut record or a non-zero pad is refused"; "At most 4,096 UUIDs, over all kinds and accepted traces": these alone are refused.
    pub accepted_exactly : (a ≡ Ok tt) ↔ Acceptable (accepted cs) t
    accepted_exactly = (λ e. accepted_fits (accepted cs) t (few s (accepted cs) means) (sym judges ∙ e), λ f. judges ∙ fits_accepted (accepted cs) t f)

    -- Q8.c "refused as 16 with the number of its first such record"; "the first record that needs one more is refused likewise"
    pub refused_exactly : (n : ℕ) → (a ≡ Err (Record n)) ↔ FirstFault (accepted cs) t n
    refused_exactly n = (λ e. refused_fault (accepted cs) t n (sym judges ∙ e), λ f. judges ∙ fault_refused (accepted cs) t n f)

    -- what calls leave from the fresh state is a state
    pub always_a_state : a ≡ Err NotAState → ⊥
    always_a_state e = verdict_state (accepted cs) t (count_of t) (sym judges ∙ e)

-- Q8.c "and the standing of every login stays what it was": of any bytes, no byte changes unless the trace is accepted.
pub refused_unchanged : {before t after : List ℕ} {a : Replayed} → Replays before t a after → (a ≡ Ok tt → ⊥) → after ≡ before
unfolding state_after
refused_unchanged {before} {t} {after} {a} r n = r.is_after ∙ ap (λ (x : Replayed). left_by x before t) (sym r.is_answer) ∙ by a n
  where
    by : (a : Replayed) → (a ≡ Ok tt → ⊥) → left_by a before t ≡ before
    by (Ok x) n = absurd (n refl)
    by (Err e) n = refl

-- Q8.d "Over accepted traces the outcome for each UUID must not depend on the order in which tablets connect, nor on a record arriving twice.": the whole answer, times included. (Order.antt: traces that are
-- all accepted in one order are all accepted in any other.)
module _ (cs ds : List Call) (s z : List ℕ) (c : Calls fresh cs s) (d : Calls fresh ds z) where
  pub order_free : Alike (accepted cs) (accepted ds) → (u : List ℕ) (a b : Stood) → Stands s u a → Stands z u b → a ≡ b
  order_free h u a b x y =
      x.is_answer ∙ told s (accepted cs) u (means cs s c)
      ∙ ap₂ (λ (m n : ℕ). Ok (login_of m n)) (marks_alike 2 u (accepted cs) (accepted ds) h) (marks_alike 3 u (accepted cs) (accepted ds) h)
      ∙ sym (y.is_answer ∙ told z (accepted ds) u (means ds z d))

  -- Q8.e "Edits never reopen.": with and without edits, in either direction.
  pub edits_never : AlikeButEdits (accepted cs) (accepted ds) → (u : List ℕ) (l m : Login) → Stands s u (Ok l) → Stands z u (Ok m)
      → l.cancelled ≡ true → m.cancelled ≡ true
  edits_never h u l m x y k =
      (said ds z d u m y).cancelled.1 (cancelled_but_edits u (accepted cs) (accepted ds) h ((said cs s c u l x).cancelled.0 k))

-- Q8.e "Equal times leave it cancelled.": a cancel than which no reissue is later, though one may have its time.
pub equal_stays : (cs : List Call) (s : List ℕ) → Calls fresh cs s → (u : List ℕ) (l : Login) → Stands s u (Ok l)
    → (e : Event) → Held 2 u (accepted cs) e → ((x : Event) → Held 3 u (accepted cs) x → x.time ≤ e.time) → l.cancelled ≡ true
equal_stays cs s c u l h e a f = (said cs s c u l h).cancelled.1 (cancelled_by u (accepted cs) e a f)

-- Q8.f: of any bytes there is one answer, and one state after it; it is "no state" exactly of bytes that are none, and what is left of a state is one.
module _ {before t after : List ℕ} {a : Replayed} (r : Replays before t a after) where
  pub replay_one : {after' : List ℕ} {a' : Replayed} → Replays before t a' after' → (a ≡ a') × (after ≡ after')
  replay_one q = (r.is_answer ∙ sym q.is_answer, r.is_after ∙ sym q.is_after)

  pub no_state_exactly : (a ≡ Err NotAState) ↔ (is_state before ≡ false)
  no_state_exactly = let n = no_state before t in (λ e. n.0 (sym r.is_answer ∙ e), λ h. r.is_answer ∙ n.1 h)

  pub leaves_a_state : is_state before ≡ true → is_state after ≡ true
  leaves_a_state h = ap is_state r.is_after ∙ left_tidy before t h r.bytes

pub standing_one : {s u : List ℕ} {a b : Stood} → Stands s u a → Stands s u b → a ≡ b
standing_one x y = x.is_answer ∙ sym y.is_answer
