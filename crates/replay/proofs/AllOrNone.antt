-- A call, from its two passes: all records go in and the state is that of the definition, or the first at fault is told and every byte is as before.
use Prim.Native.Nat.{ℕ, zero, suc, ◌+◌, ◌*◌, ◌-◌, ◌<◌, min}
use mathlib.Core.Path.{◌≡◌, refl, sym, ap, subst, ◌∙◌}
use mathlib.Core.Bool.{Bool, true, false, cond}
use mathlib.Core.Logic.{◌↔◌, ⊎_elim}
use mathlib.Core.List.{List}
use native.Mathlib.Omega.{arith}
use lib.ListN.{length, take, length-take, length-drop}
use Rattle.std.specs.Prelude.{Ok, Err}
use Rattle.words.specs.Numbers.{Bytes}
use Rattle.replay.specs.Trace.{record_at, count_of}
use Rattle.replay.specs.State.{is_state}
use Rattle.replay.specs.declared.ReplayRefusal.TheVariants.{Record, NotAState}
use Rattle.replay.specs.Replay.{Replayed, goes_in, recorded_to, then, answered_to, left_by, replay_of, state_after}
use Rattle.replay.specs.Waiting.{reserved_to, ReservesTo, FaultAt, swept_to, Owned, AllOwned}
use Rattle.replay.specs.Calls.{Replays}
use Rattle.words.proofs.Either.{lt_or_ge}
use Rattle.replay.proofs.Tests.{no}
use Rattle.replay.proofs.Fine.{fine_whole, record_bytes}
use Rattle.replay.proofs.Tidy.{Tidy, is_tidy, tidy_is}
use Rattle.replay.proofs.Passes.{AllGo, passed, tests_agree, settled, goes_both, record_tidy}
use Rattle.replay.proofs.Verdicts.{never, never_state}
use Rattle.replay.proofs.Swept.{swept_back, reserved_to_lem}

-- a fault stays
stays : (s t : List ℕ) (m n k : ℕ) → answered_to s t m ≡ Err (Record n) → answered_to s t (k + m) ≡ Err (Record n)
unfolding answered_to
stays s t m n zero h = let z : 0 + m ≡ m = omega arith in ap (answered_to s t) z ∙ h
stays s t m n (suc k) h =
    let z : suc k + m ≡ suc (k + m) = omega arith in
    ap (answered_to s t) z ∙ ap (λ (a : Replayed). then a (goes_in (recorded_to s t (k + m)) (record_at t (k + m))) (k + m)) (stays s t m n k h)

module _ (s t : List ℕ) (i : is_state s ≡ true) (b : Bytes t) where
  v : Tidy s
  v = is_tidy s i

  all_accepted : (n : ℕ) → AllGo t b s v n → answered_to s t n ≡ Ok tt
  unfolding answered_to
  all_accepted zero g = refl
  all_accepted (suc n) g =
      let h : AllGo t b s v n = λ k l. g k (omega arith) in
      ap (λ (a : Replayed). then a (goes_in (recorded_to s t n) (record_at t n)) n) (all_accepted n h)
      ∙ ap (λ (x : Bool). then (Ok tt) x n) (tests_agree t b s v n h ∙ g n (omega arith))

  fault : (n : ℕ) → AllGo t b s v n → goes_in (reserved_to s t n) (record_at t n) ≡ false → answered_to s t (suc n) ≡ Err (Record n)
  unfolding answered_to
  fault n g f =
      ap (λ (a : Replayed). then a (goes_in (recorded_to s t n) (record_at t n)) n) (all_accepted n g)
      ∙ ap (λ (x : Bool). then (Ok tt) x n) (tests_agree t b s v n g ∙ f)

  answer_is : replay_of s t ≡ answered_to s t (count_of t)
  unfolding replay_of
  answer_is = rw i

  after_is : {a : Replayed} → replay_of s t ≡ a → state_after s t ≡ left_by a s t
  unfolding state_after
  after_is e = ap (λ (x : Replayed). left_by x s t) e

  -- every record has a place
  module _ (y : List ℕ) (r : ReservesTo s t (count_of t) y) where
    abbrev n : ℕ
    n = count_of t

    -- the last is whole too
    whole : 32 * n ≡ length t
    whole = ⊎_elim last (λ g. omega arith) (lt_or_ge 0 n)
      where
        last : 0 < n → 32 * n ≡ length t
        last l =
            let k = n - 1 in
            let f = fine_whole (record_at t k) (goes_both (reserved_to s t k) (record_at t k) (r.goes k (omega arith))).0 in
            let m : length (record_at t k) ≡ min 32 (length t - 32 * k) = simp (length-take, length-drop) in
            omega (arith, f, m)

    -- each UUID has an entry, and keeps it
    owned : (k : ℕ) → k < n → Owned (recorded_to (reserved_to s t n) t k) (take 16 (record_at t k))
    owned k l =
        let h = passed t b s v n r.goes in
        (settled t b (reserved_to s t n) h.long k (λ j g. (goes_both (reserved_to s t j) (record_at t j) (r.goes j (omega arith))).0) (λ j g. h.owned j (omega arith))
        ).owned (take 16 (record_at t k)) (h.owned k l)

    pub all_owned : AllOwned y t
    all_owned = record {
      whole = omega (arith, whole);
      owned = λ k l. subst (λ (x : List ℕ). Owned (recorded_to x t k) (take 16 (record_at t k))) (sym r.is_state) (owned k (omega arith));
    }

    accepted : replay_of s t ≡ Ok tt
    accepted = answer_is ∙ all_accepted n r.goes

    pub whole_accepted : (z : List ℕ) → z ≡ recorded_to y t n → Replays s t (Ok tt) z
    whole_accepted z e = record {
      bytes = b;
      is_answer = sym accepted;
      is_after = e ∙ ap (λ (x : List ℕ). recorded_to x t n) r.is_state ∙ (passed t b s v n r.goes).same ∙ sym (after_is accepted);
    }

  -- record n has none
  module _ (n : ℕ) (y : List ℕ) (r : FaultAt s t n y) where
    refused : replay_of s t ≡ Err (Record n)
    refused =
        let q : (count_of t - suc n) + suc n ≡ count_of t = omega (arith, r.low) in
        answer_is ∙ ap (answered_to s t) (sym q) ∙ stays s t (suc n) n (count_of t - suc n) (fault n r.so_far.goes r.stop)

    pub whole_refused : (z : List ℕ) → z ≡ swept_to y 4096 → Replays s t (Err (Record n)) z
    whole_refused z e = record {
      bytes = b;
      is_answer = sym refused;
      is_after = e ∙ ap (λ (x : List ℕ). swept_to x 4096) r.so_far.is_state
          ∙ swept_back s (reserved_to s t n) v (passed t b s v n r.so_far.goes).long.long (reserved_to_lem t b s v n r.so_far.goes)
          ∙ sym (after_is refused);
    }

-- what an accepted trace leaves is a state
then_both : (a : Replayed) (g : Bool) (n : ℕ) → then a g n ≡ Ok tt → (a ≡ Ok tt) × (g ≡ true)
then_both (Ok x) true n e = (refl, refl)
then_both (Ok x) false n e = never (Record n) e
then_both (Err r) g n e = never r e

recorded_tidy : (s t : List ℕ) → Tidy s → Bytes t → (n : ℕ) → answered_to s t n ≡ Ok tt → Tidy (recorded_to s t n)
unfolding answered_to recorded_to
recorded_tidy s t v b zero e = v
recorded_tidy s t v b (suc n) e =
    let h = then_both (answered_to s t n) (goes_in (recorded_to s t n) (record_at t n)) n e in
    let g = goes_both (recorded_to s t n) (record_at t n) h.1 in
    record_tidy (record_at t n) (record_bytes t b n) g.0 (recorded_to s t n) (recorded_tidy s t v b n h.0) g.1

pub left_tidy : (s t : List ℕ) → is_state s ≡ true → Bytes t → is_state (state_after s t) ≡ true
unfolding state_after
left_tidy s t i b = by (replay_of s t) (answer_is s t i b)
  where
    by : (a : Replayed) → a ≡ answered_to s t (count_of t) → is_state (left_by a s t) ≡ true
    by (Ok x) e = tidy_is (recorded_to s t (count_of t)) (recorded_tidy s t (is_tidy s i) b (count_of t) (sym e))
    by (Err r) e = i

-- and no state is refused as one that is none
answered_state : (s t : List ℕ) (n : ℕ) → answered_to s t n ≡ Err NotAState → ⊥
unfolding answered_to
answered_state s t zero e = never NotAState (sym e)
answered_state s t (suc n) e = by (answered_to s t n) (goes_in (recorded_to s t n) (record_at t n)) (answered_state s t n) e
  where
    by : (a : Replayed) (g : Bool) → (a ≡ Err NotAState → ⊥) → then a g n ≡ Err NotAState → ⊥
    by (Ok x) true h e = never NotAState (sym e)
    by (Ok x) false h e = never_state n e
    by (Err r) g h e = h e

pub no_state : (s t : List ℕ) → (replay_of s t ≡ Err NotAState) ↔ (is_state s ≡ false)
unfolding replay_of
no_state s t = by (is_state s)
  where
    by : (b : Bool) → (cond b (answered_to s t (count_of t)) (Err NotAState) ≡ Err NotAState) ↔ (b ≡ false)
    by true = (λ e. absurd (answered_state s t (count_of t) e), λ e. no e)
    by false = (λ e. refl, λ e. refl)

pub not_a_state : (s t : List ℕ) → Bytes t → is_state s ≡ false → Replays s t (Err NotAState) s
unfolding replay_of state_after
not_a_state s t b h = record { bytes = b; is_answer = rw h; is_after = rw h }
