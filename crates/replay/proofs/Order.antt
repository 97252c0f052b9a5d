-- Traces that are all accepted in one order are all accepted in any other, and again, and leave every login the same standing: what a trace needs is that its records are fine and that the UUIDs are few, and these depend on the traces alone.
use Prim.Native.Nat.{ℕ, ◌<◌, ◌≤◌}
use mathlib.Core.Path.{◌≡◌, refl, sym, subst, ◌∙◌}
use mathlib.Core.Bool.{true}
use mathlib.Core.Logic.{◌⊎◌, ⊎_elim, inl, inr}
use mathlib.Core.List.{List, [], ◌∷◌, ◌++◌}
use native.Mathlib.Omega.{arith}
use lib.ListN.{length}
use Rattle.replay.specs.Trace.{Event, record_at, count_of, fine, events_of}
use Rattle.replay.specs.Cancelled.{In}
use Rattle.replay.specs.Acceptance.{distinct}
use Rattle.replay.specs.State.{fresh}
use Rattle.std.specs.Prelude.{Ok, Err}
use Rattle.replay.specs.Replay.{Replayed, Stood}
use Rattle.replay.specs.Calls.{Stands, Call, Calls, if_accepted, accepted, AllAccepted, TraceOf}
use Rattle.replay.proofs.Means.{Means, few}
use Rattle.replay.proofs.Fresh.{fresh_means}
use Rattle.replay.proofs.Pigeons.{fewer}
use Rattle.replay.proofs.Verdicts.{accepted_fits, fits_accepted}
use Rattle.replay.proofs.History.{replay_judges, replay_after, calls_mean}
use Rattle.replay.proofs.Promises.{order_free}

in_left : (e : Event) (es fs : List Event) → In e es → In e (es ++ fs)
unfolding In
in_left e [] fs i = absurd i
in_left e (x ∷ es) fs i = ⊎_elim (λ q. inl q) (λ j. inr (in_left e es fs j)) i

in_right : (e : Event) (es fs : List Event) → In e fs → In e (es ++ fs)
unfolding In
in_right e [] fs i = i
in_right e (x ∷ es) fs i = inr (in_right e es fs i)

in_either : (e : Event) (es fs : List Event) → In e (es ++ fs) → In e es ⊎ In e fs
unfolding In
in_either e [] fs i = inr i
in_either e (x ∷ es) fs i = ⊎_elim (λ q. inl (inl q)) (λ j. ⊎_elim (λ k. inl (inr k)) (λ k. inr k) (in_either e es fs j)) i

none_in : (e : Event) → In e [] → ⊥
unfolding In
none_in e i = i

head : (c : Call) (cs : List Call) → TraceOf c.trace (c ∷ cs)
unfolding TraceOf
head c cs = inl refl

tail : (t : List ℕ) (c : Call) (cs : List Call) → TraceOf t cs → TraceOf t (c ∷ cs)
unfolding TraceOf
tail t c cs o = inr o

-- what an accepted trace says is held
one_held : (cs : List Call) → AllAccepted cs → (t : List ℕ) → TraceOf t cs → (e : Event) → In e (events_of t) → In e (accepted cs)
unfolding AllAccepted TraceOf accepted
one_held [] a t o e i = absurd o
one_held (c ∷ cs) a t o e i =
    ⊎_elim
    (λ q. in_left e (if_accepted c.answer (events_of c.trace)) (accepted cs) (rw a.0 (subst (λ (y : List ℕ). In e (events_of y)) q i)))
    (λ p. in_right e (if_accepted c.answer (events_of c.trace)) (accepted cs) (one_held cs a.1 t p e i))
    o

-- what is held is from the traces
if_accepted_lem : (a : Replayed) (e : Event) (es : List Event) → In e (if_accepted a es) → In e es
if_accepted_lem (Ok x) e es i = i
if_accepted_lem (Err r) e es i = absurd (none_in e i)

held_from : (cs : List Call) (fs : List Event) → ((t : List ℕ) → TraceOf t cs → (e : Event) → In e (events_of t) → In e fs) → (e : Event) → In e (accepted cs) → In e fs
unfolding accepted
held_from [] fs f e i = absurd (none_in e i)
held_from (c ∷ cs) fs f e i =
    ⊎_elim
    (λ j. f c.trace (head c cs) e (if_accepted_lem c.answer e (events_of c.trace) j))
    (λ j. held_from cs fs (λ t o. f t (tail t c cs o)) e j)
    (in_either e (if_accepted c.answer (events_of c.trace)) (accepted cs) i)

-- every record of a trace is fine
abbrev AllFine : List ℕ → Type 0
AllFine t = (k : ℕ) → k < count_of t → fine (record_at t k) ≡ true

accepted_fine : (cs : List Call) (s z : List ℕ) (es : List Event) → Means s es → Calls s cs z → AllAccepted cs → (t : List ℕ) → TraceOf t cs → AllFine t
unfolding Calls AllAccepted TraceOf
accepted_fine [] s z es v c a t o = absurd o
accepted_fine (x ∷ cs) s z es v c a t o =
    ⊎_elim
    (λ q. subst AllFine (sym q) (accepted_fits es x.trace (few s es v) (sym (replay_judges s es x.trace v c.1.bytes) ∙ sym c.1.is_answer ∙ a.0)).fines)
    (λ p. accepted_fine cs c.0 z (es ++ if_accepted x.answer (events_of x.trace)) (replay_after s es v c.1) c.2 a.1 t p)
    o

-- traces of fine records, all of whose events are among fs, which have few UUIDs
all_fit : (fs : List Event) → length (distinct fs) ≤ 4096 → (ds : List Call) (s z : List ℕ) (es : List Event) → Means s es → Calls s ds z
    → ((e : Event) → In e es → In e fs) → ((t : List ℕ) → TraceOf t ds → AllFine t) → ((t : List ℕ) → TraceOf t ds → (e : Event) → In e (events_of t) → In e fs)
    → AllAccepted ds
unfolding Calls AllAccepted
all_fit fs l [] s z es v c f g h = tt
all_fit fs l (x ∷ ds) s z es v c f g h =
    let t = x.trace in
    let w : (e : Event) → In e (es ++ events_of t) → In e fs = λ e i. ⊎_elim (λ j. f e j) (λ j. h t (head x ds) e j) (in_either e es (events_of t) i) in
    let k = fits_accepted es t (record { fines = g t (head x ds); few = omega (arith, l, fewer (es ++ events_of t) fs w) }) in
    let a : x.answer ≡ Ok tt = c.1.is_answer ∙ replay_judges s es t v c.1.bytes ∙ k in (
      a,
      all_fit fs l ds c.0 z (es ++ if_accepted x.answer (events_of t)) (replay_after s es v c.1) c.2
          (λ e i. w e (subst (λ (y : Replayed). In e (es ++ if_accepted y (events_of t))) a i)) (λ y o. g y (tail y x ds o)) (λ y o. h y (tail y x ds o)),
    )

module _ (cs ds : List Call) (s z : List ℕ) (c : Calls fresh cs s) (d : Calls fresh ds z) (a : AllAccepted cs) where
  -- Q8.d: any of the accepted traces, in any order and any number, are accepted
  pub any_order : ((t : List ℕ) → TraceOf t ds → TraceOf t cs) → AllAccepted ds
  any_order h =
      all_fit (accepted cs) (few s (accepted cs) (calls_mean cs fresh s [] fresh_means c)) ds fresh z [] fresh_means d
      (λ e i. absurd (none_in e i))
      (λ t o. accepted_fine cs fresh s [] fresh_means c a t (h t o))
      (λ t o. one_held cs a t (h t o))

  -- Q8.d: the same traces in any order, and again: every one is accepted, and every login has the same standing
  pub tablets : ((t : List ℕ) → TraceOf t ds → TraceOf t cs) → ((t : List ℕ) → TraceOf t cs → TraceOf t ds)
      → AllAccepted ds × ((u : List ℕ) (x y : Stood) → Stands s u x → Stands z u y → x ≡ y)
  tablets h k =
      let b = any_order h in
      (b, order_free cs ds s z c d (record { to = held_from cs (accepted ds) (λ t o. one_held ds b t (k t o)); from = held_from ds (accepted cs) (λ t o. one_held cs a t (h t o)) }))
