-- A verdict over events says what the request says: accepted exactly when every record is fine and the UUIDs are at most 4,096; refused with the first record at fault. By recursion on the records.
use Prim.Native.Nat.{ℕ, zero, suc, ◌<◌, ◌≤◌}
use mathlib.Core.Path.{◌≡◌, refl, sym, ap, ◌∙◌}
use mathlib.Core.Bool.{Bool, true, false, cond}
use mathlib.Core.Logic.{◌⊎◌, ⊎_elim, inl, inr}
use mathlib.Core.List.{List, [], ◌∷◌, ◌++◌, append_assoc, append-nil}
use native.Mathlib.Nat.{eq-or-lt_of_le}
use native.Mathlib.Omega.{arith}
use lib.Dec.{leb}
use borrow.Author.Tests.{le-leb, leb-true}
use lib.ListN.{length}
use Rattle.replay.specs.Trace.{Event, record_at, count_of, event_of, fine, first_events}
use Rattle.replay.specs.Acceptance.{distinct, joined, admits, good, Acceptable, FirstFault}
use Rattle.replay.specs.Replay.{Replayed, then}
use Rattle.std.specs.Prelude.{Ok, Err}
use Rattle.replay.specs.declared.ReplayRefusal.{ReplayRefusal}
use Rattle.replay.specs.declared.ReplayRefusal.TheVariants.{Record, NotAState}
use Rattle.words.proofs.Either.{lt_or_ge, eq_or_ne}
use Rattle.replay.proofs.Tests.{no}
use Rattle.replay.proofs.Gathered.{distinct_more, joined_long}

-- the answers differ
pub never : {A : Type 0} (e : ReplayRefusal) → ◌≡◌ {A = Replayed} (Err e) (Ok tt) → A
never e q = absurd (cc)

pub never_state : {A : Type 0} (n : ℕ) → ◌≡◌ {A = Replayed} (Err (Record n)) (Err NotAState) → A
never_state n q = absurd (cc)

-- the first n records of a trace that comes after the events es: the first at fault decides
unfoldable pub verdict : List Event → List ℕ → ℕ → Replayed
verdict es t zero = Ok tt
verdict es t (suc n) = then (verdict es t n) (good es t n) n

-- of the first m records, n is at fault, and none before it
record First (es : List Event) (t : List ℕ) (m n : ℕ) : Type 0 where
  low : n < m
  bad : good es t n ≡ false
  before : (k : ℕ) → k < n → good es t k ≡ true

apart : (a b : ℕ) → (a ≡ b) ⊎ ((a < b) ⊎ (b < a))
apart a b = ⊎_elim (λ e. inl e) (λ n. inr (⊎_elim (λ l. inl l) (λ g. inr (omega arith)) (lt_or_ge a b))) (eq_or_ne a b)

abbrev Judged : List Event → List ℕ → ℕ → Replayed → Type 0
Judged es t n (Ok x) = (k : ℕ) → k < n → good es t k ≡ true
Judged es t n (Err (Record m)) = First es t n m
Judged es t n (Err NotAState) = ⊥

module _ (es : List Event) (t : List ℕ) where
  judge : (n : ℕ) → Judged es t n (verdict es t n)
  unfolding verdict
  judge zero = λ k l. absurd (omega arith)
  judge (suc n) = by (verdict es t n) (judge n)
    where
      by : (a : Replayed) → Judged es t n a → Judged es t (suc n) (then a (good es t n) n)
      by (Ok x) h = go (good es t n) refl
        where
          go : (b : Bool) → good es t n ≡ b → Judged es t (suc n) (cond b (Ok x) (Err (Record n)))
          go true e = λ k l. ⊎_elim (λ q. ap (good es t) q ∙ e) (λ q. h k q) (eq-or-lt_of_le {n = k} {m = n} (omega arith))
          go false e = record { low = omega arith; bad = e; before = h }
      by (Err (Record m)) h = record { low = omega (arith, h.low); bad = h.bad; before = h.before }
      by (Err NotAState) h = h

  pub verdict_state : (n : ℕ) → verdict es t n ≡ Err NotAState → ⊥
  verdict_state n e = by (verdict es t n) (judge n) e
    where
      by : (a : Replayed) → Judged es t n a → a ≡ Err NotAState → ⊥
      by (Ok x) h e = never NotAState (sym e)
      by (Err (Record m)) h e = never_state m e
      by (Err NotAState) h e = h

  -- accepted exactly when no record is at fault
  accepted_good : (n : ℕ) → verdict es t n ≡ Ok tt → (k : ℕ) → k < n → good es t k ≡ true
  accepted_good n e = by (verdict es t n) (judge n) e
    where
      by : (a : Replayed) → Judged es t n a → a ≡ Ok tt → (k : ℕ) → k < n → good es t k ≡ true
      by (Ok x) h e = h
      by (Err (Record m)) h e = never (Record m) e
      by (Err NotAState) h e = absurd h

  good_accepted : (n : ℕ) → ((k : ℕ) → k < n → good es t k ≡ true) → verdict es t n ≡ Ok tt
  good_accepted n g = by (verdict es t n) (judge n)
    where
      by : (a : Replayed) → Judged es t n a → a ≡ Ok tt
      by (Ok x) h = refl
      by (Err (Record m)) h = no (sym (g m h.low) ∙ h.bad)
      by (Err NotAState) h = absurd h

  -- refused with n exactly when record n is the first at fault
  refused_first : (m n : ℕ) → verdict es t m ≡ Err (Record n) → First es t m n
  refused_first m n e = by (verdict es t m) (judge m) e
    where
      by : (a : Replayed) → Judged es t m a → a ≡ Err (Record n) → First es t m n
      by (Ok x) h e = never (Record n) (sym e)
      by (Err (Record k)) h e = let q : k ≡ n = cc in rw (← q) h
      by (Err NotAState) h e = absurd h

  first_refused : (m n : ℕ) → First es t m n → verdict es t m ≡ Err (Record n)
  first_refused m n f = by (verdict es t m) (judge m)
    where
      by : (a : Replayed) → Judged es t m a → a ≡ Err (Record n)
      by (Ok x) h = no (sym (h n f.low) ∙ f.bad)
      by (Err (Record k)) h =
          ap (λ (m : ℕ). Err (Record m))
          (⊎_elim (λ q. q)
          (λ q. ⊎_elim (λ z. no (sym (f.before k z) ∙ h.bad)) (λ z. no (sym (h.before n z) ∙ f.bad)) q)
          (apart k n))
      by (Err NotAState) h = absurd h

admits_both : (es : List Event) (r : List ℕ) → admits es r ≡ true → (fine r ≡ true) × (length (distinct (es ++ (event_of r ∷ []))) ≤ 4096)
unfolding admits
admits_both es r h = by (fine r) refl h
  where
    by : (f : Bool) → fine r ≡ f → cond f (leb (length (distinct (es ++ (event_of r ∷ [])))) 4096) false ≡ true → (fine r ≡ true) × (length (distinct (es ++ (event_of r ∷ []))) ≤ 4096)
    by true e h = (e, leb-true (length (distinct (es ++ (event_of r ∷ [])))) 4096 h)
    by false e h = no (sym h)

both_admit : (es : List Event) (r : List ℕ) → fine r ≡ true → length (distinct (es ++ (event_of r ∷ []))) ≤ 4096 → admits es r ≡ true
unfolding admits
both_admit es r f l = rw (f, le-leb (length (distinct (es ++ (event_of r ∷ [])))) 4096 l)

module _ (es : List Event) (t : List ℕ) where
  one_more : (n : ℕ) → (es ++ first_events t n) ++ (event_of (record_at t n) ∷ []) ≡ es ++ first_events t (suc n)
  unfolding first_events
  one_more n = append_assoc es (first_events t n) (event_of (record_at t n) ∷ [])

  none_yet : es ++ first_events t 0 ≡ es
  unfolding first_events
  none_yet = append-nil es

  grows : (n : ℕ) → length (distinct (es ++ first_events t n)) ≤ length (distinct (es ++ first_events t (suc n)))
  grows n =
      let e : distinct (es ++ first_events t (suc n)) ≡ joined (distinct (es ++ first_events t n)) (event_of (record_at t n)).uuid = ap distinct (sym (one_more n)) ∙ distinct_more (es ++ first_events t n) (event_of (record_at t n)) in
      omega (arith, ap length e, joined_long (distinct (es ++ first_events t n)) (event_of (record_at t n)).uuid)

  up_to : (k n : ℕ) → k ≤ n → length (distinct (es ++ first_events t k)) ≤ length (distinct (es ++ first_events t n))
  up_to k zero h = let z : k ≡ 0 = omega arith in rw z (omega arith)
  up_to k (suc n) h =
      ⊎_elim (λ e. rw e (omega arith)) (λ l. omega (arith, grows n, up_to k n (omega arith))) (eq-or-lt_of_le h)

  pub fits_accepted : Acceptable es t → verdict es t (count_of t) ≡ Ok tt
  fits_accepted f =
      good_accepted es t (count_of t)
      (λ k l. both_admit (es ++ first_events t k) (record_at t k) (f.fines k l) (omega (arith, ap (λ (x : List Event). length (distinct x)) (one_more k), up_to (suc k) (count_of t) (omega arith), f.few)))

  few_so : (n : ℕ) → length (distinct es) ≤ 4096 → ((k : ℕ) → k < n → good es t k ≡ true) → length (distinct (es ++ first_events t n)) ≤ 4096
  few_so zero h g = omega (arith, ap (λ (x : List Event). length (distinct x)) none_yet)
  few_so (suc n) h g = omega (arith, ap (λ (x : List Event). length (distinct x)) (one_more n), (admits_both (es ++ first_events t n) (record_at t n) (g n (omega arith))).1)

  pub accepted_fits : length (distinct es) ≤ 4096 → verdict es t (count_of t) ≡ Ok tt → Acceptable es t
  accepted_fits h e =
      let g = accepted_good es t (count_of t) e in
      record { fines = λ k l. (admits_both (es ++ first_events t k) (record_at t k) (g k l)).0; few = few_so (count_of t) h g }

  pub refused_fault : (n : ℕ) → verdict es t (count_of t) ≡ Err (Record n) → FirstFault es t n
  refused_fault n e = let f = refused_first es t (count_of t) n e in record { low = f.low; bad = f.bad; before = f.before }

  pub fault_refused : (n : ℕ) → FirstFault es t n → verdict es t (count_of t) ≡ Err (Record n)
  fault_refused n f = first_refused es t (count_of t) n (record { low = f.low; bad = f.bad; before = f.before })
