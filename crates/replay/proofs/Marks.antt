-- The largest mark of a UUID's events says whether the login is cancelled: it bounds every event's mark, and one event has it. By recursion on the events.
use Prim.Native.Nat.{ℕ, ◌+◌, ◌-◌, ◌<◌, ◌≤◌, max}
use mathlib.Core.Path.{◌≡◌, refl, sym, ap, ◌∙◌}
use mathlib.Core.Bool.{Bool, cond}
use mathlib.Core.Logic.{◌⊎◌, ⊎_elim, inl, inr}
use mathlib.Core.List.{List, [], ◌∷◌, ◌++◌}
use native.Mathlib.Omega.{arith}
use borrow.Author.Tests.{eq-eqb, ne_eqb}
use Rattle.words.specs.Slices.{same}
use Rattle.words.proofs.SliceLaws.{same_refl}
use Rattle.replay.specs.Trace.{Event}
use Rattle.replay.specs.Cancelled.{In, Held, IsLatest, Cancelled, Alike, AlikeButEdits}
use Rattle.replay.specs.State.{mark_of}
use Rattle.words.proofs.Either.{eq_or_ne, alike_or_not, differ}

-- what an event brings to the mark of kind k of the login u
abbrev pub mark_for : ℕ → List ℕ → Event → ℕ
mark_for k u e = cond (same e.uuid u) (mark_of k e) 0

unfoldable pub mark_in : ℕ → List ℕ → List Event → ℕ
mark_in k u [] = 0
mark_in k u (e ∷ es) = max (mark_for k u e) (mark_in k u es)

pub mark_more : (k : ℕ) (u : List ℕ) (es : List Event) (e : Event) → mark_in k u (es ++ (e ∷ [])) ≡ max (mark_in k u es) (mark_for k u e)
unfolding mark_in
mark_more k u [] e = omega arith
mark_more k u (x ∷ es) e = ap (max (mark_for k u x)) (mark_more k u es e) ∙ assoc (mark_for k u x) (mark_in k u es) (mark_for k u e)
  where
    assoc : (a b c : ℕ) → max a (max b c) ≡ max (max a b) c
    assoc a b c = omega arith

pub mark_own : (k : ℕ) (u : List ℕ) (e : Event) → e.uuid ≡ u → mark_for k u e ≡ mark_of k e
mark_own k u e q = ap (λ (b : Bool). cond b (mark_of k e) 0) (ap (λ (x : List ℕ). same x u) q ∙ same_refl u)

pub mark_other : (k : ℕ) (u : List ℕ) (e : Event) → (e.uuid ≡ u → ⊥) → mark_for k u e ≡ 0
mark_other k u e n = ap (λ (b : Bool). cond b (mark_of k e) 0) (differ e.uuid u n)

pub of_kind : (k : ℕ) (e : Event) → e.kind ≡ k → mark_of k e ≡ 8589934592 + e.time
of_kind k e q = rw (eq-eqb e.kind k q)

pub of_other : (k : ℕ) (e : Event) → (e.kind ≡ k → ⊥) → mark_of k e ≡ 4294967296
of_other k e n = rw (ne_eqb e.kind k n)

pub mark_bounds : (k : ℕ) (u : List ℕ) (es : List Event) (e : Event) → In e es → e.uuid ≡ u → mark_of k e ≤ mark_in k u es
unfolding mark_in In
mark_bounds k u [] e i q = absurd i
mark_bounds k u (x ∷ es) e i q =
    ⊎_elim
    (λ p. omega (arith, ap (mark_of k) p, mark_own k u x (ap (λ (y : Event). y.uuid) (sym p) ∙ q)))
    (λ j. omega (arith, mark_bounds k u es e j q))
    i

-- an event of u among es whose mark is m
pub record Holder (k : ℕ) (u : List ℕ) (es : List Event) (m : ℕ) : Type 0 where
  pub event : Event
  pub held : In event es
  pub of : event.uuid ≡ u
  pub mark : mark_of k event ≡ m

later : (k : ℕ) (u : List ℕ) (x : Event) (es : List Event) (m n : ℕ) → m ≡ n → Holder k u es m → Holder k u (x ∷ es) n
unfolding In
later k u x es m n e h = record { event = h.event; held = inr h.held; of = h.of; mark = h.mark ∙ e }

now : (k : ℕ) (u : List ℕ) (x : Event) (es : List Event) (n : ℕ) → x.uuid ≡ u → mark_of k x ≡ n → Holder k u (x ∷ es) n
unfolding In
now k u x es n q e = record { event = x; held = inl refl; of = q; mark = e }

-- the larger of a and b is one of them
larger : (a b : ℕ) → (max a b ≡ a) ⊎ (max a b ≡ b)
larger a b = ⊎_elim (λ e. inl e) (λ n. inr (omega arith)) (eq_or_ne (max a b) a)

pub mark_held : (k : ℕ) (u : List ℕ) (es : List Event) → (mark_in k u es ≡ 0) ⊎ Holder k u es (mark_in k u es)
unfolding mark_in
mark_held k u [] = inl refl
mark_held k u (x ∷ es) =
    ⊎_elim
    (λ e. ⊎_elim (λ q. inr (now k u x es _ q (sym (mark_own k u x q) ∙ sym e))) (λ n. inl (e ∙ mark_other k u x n)) (alike_or_not x.uuid u))
    (λ e. ⊎_elim (λ z. inl (e ∙ z)) (λ h. inr (later k u x es _ _ (sym e) h)) (mark_held k u es))
    (larger (mark_for k u x) (mark_in k u es))

-- a mark of 2^33 or more is that of the latest event of its kind; a smaller one says that there is none
module _ (k : ℕ) (u : List ℕ) (es : List Event) where
  bound : (e : Event) → Held k u es e → 8589934592 + e.time ≤ mark_in k u es
  bound e a = omega (arith, of_kind k e a.is, mark_bounds k u es e a.held a.of)

  pub mark_latest : 8589934592 ≤ mark_in k u es → (x : ℕ) → 8589934592 + x ≡ mark_in k u es → IsLatest k u es x
  mark_latest l x q = ⊎_elim (λ z. absurd (omega arith)) by (mark_held k u es)
    where
      by : Holder k u es (mark_in k u es) → IsLatest k u es x
      by h =
          let e = h.event in
          let i : e.kind ≡ k = ⊎_elim (λ q. q) (λ n. absurd (omega (arith, of_other k e n, h.mark))) (eq_or_ne e.kind k) in
          record {
            event = e;
            held = record { held = h.held; of = h.of; is = i };
            time = omega (arith, of_kind k e i, h.mark);
            none_later = λ y g. omega (arith, bound y g);
          }

  pub latest_mark : (x : ℕ) → IsLatest k u es x → mark_in k u es ≡ 8589934592 + x
  latest_mark x m = ⊎_elim (λ z. absurd (omega (arith, bound m.event m.held))) by (mark_held k u es)
    where
      by : Holder k u es (mark_in k u es) → mark_in k u es ≡ 8589934592 + x
      by h =
          ⊎_elim
          (λ i. omega (arith, bound m.event m.held, m.time, h.mark, of_kind k h.event i, m.none_later h.event (record { held = h.held; of = h.of; is = i })))
          (λ n. absurd (omega (arith, bound m.event m.held, h.mark, of_other k h.event n)))
          (eq_or_ne h.event.kind k)

  pub mark_none : mark_in k u es < 8589934592 → (e : Event) → Held k u es e → ⊥
  mark_none l e a = omega (arith, bound e a)

  -- no event of kind k is later than x: nor is the mark greater than that of x
  pub mark_at_most : (x : ℕ) → ((e : Event) → Held k u es e → e.time ≤ x) → mark_in k u es ≤ 8589934592 + x
  mark_at_most x f = ⊎_elim (λ z. omega arith) by (mark_held k u es)
    where
      by : Holder k u es (mark_in k u es) → mark_in k u es ≤ 8589934592 + x
      by h =
          ⊎_elim
          (λ i. omega (arith, h.mark, of_kind k h.event i, f h.event (record { held = h.held; of = h.of; is = i })))
          (λ m. omega (arith, h.mark, of_other k h.event m))
          (eq_or_ne h.event.kind k)

-- the two marks of a login say whether it is cancelled
pub marks_cancelled : (u : List ℕ) (es : List Event) → 8589934592 ≤ mark_in 2 u es → mark_in 3 u es ≤ mark_in 2 u es → Cancelled u es
marks_cancelled u es a b =
    record {
      last = mark_in 2 u es - 8589934592;
      cancel = mark_latest 2 u es a (mark_in 2 u es - 8589934592) (omega arith);
      no_reissue = λ e g. omega (arith, bound 3 u es e g);
    }

pub cancelled_marks : (u : List ℕ) (es : List Event) → Cancelled u es → (8589934592 ≤ mark_in 2 u es) × (mark_in 3 u es ≤ mark_in 2 u es)
cancelled_marks u es c =
    let m = latest_mark 2 u es c.last c.cancel in
    (omega arith, omega (arith, mark_at_most 3 u es c.last c.no_reissue))

-- the same events, the same marks
marks_within : (k : ℕ) (u : List ℕ) (es fs : List Event) → ((e : Event) → In e es → In e fs) → mark_in k u es ≤ mark_in k u fs
marks_within k u es fs f = ⊎_elim (λ z. omega arith) (λ h. omega (arith, h.mark, mark_bounds k u fs h.event (f h.event h.held) h.of)) (mark_held k u es)

pub marks_alike : (k : ℕ) (u : List ℕ) (es fs : List Event) → Alike es fs → mark_in k u es ≡ mark_in k u fs
marks_alike k u es fs a = omega (arith, marks_within k u es fs a.to, marks_within k u fs es a.from)

-- a cancel than which no reissue is later: some cancel is the latest
pub cancelled_by : (u : List ℕ) (es : List Event) (e : Event) → Held 2 u es e → ((x : Event) → Held 3 u es x → x.time ≤ e.time) → Cancelled u es
cancelled_by u es e a f = marks_cancelled u es (omega (arith, bound 2 u es e a)) (omega (arith, bound 2 u es e a, mark_at_most 3 u es e.time f))

module _ (es fs : List Event) (h : AlikeButEdits es fs) (u : List ℕ) where
  to : (k : ℕ) → (k ≡ 1 → ⊥) → (e : Event) → Held k u es e → Held k u fs e
  to k n e a = record { held = h.to e (λ q. n (sym a.is ∙ q)) a.held; of = a.of; is = a.is }

  from : (k : ℕ) → (k ≡ 1 → ⊥) → (e : Event) → Held k u fs e → Held k u es e
  from k n e a = record { held = h.from e (λ q. n (sym a.is ∙ q)) a.held; of = a.of; is = a.is }

pub cancelled_but_edits : (u : List ℕ) (es fs : List Event) → AlikeButEdits es fs → Cancelled u es → Cancelled u fs
cancelled_but_edits u es fs h c =
    record {
      last = c.last;
      cancel = record {
        event = c.cancel.event;
        held = to es fs h u 2 (λ q. omega arith) c.cancel.event c.cancel.held;
        time = c.cancel.time;
        none_later = λ e a. c.cancel.none_later e (from es fs h u 2 (λ q. omega arith) e a);
      };
      no_reissue = λ e a. c.no_reissue e (from es fs h u 3 (λ q. omega arith) e a);
    }
