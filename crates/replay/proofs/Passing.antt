-- The loops of the two passes go along the whole records: after n of them the state is that of the definition.
use Prim.Native.Nat.{ℕ, ◌+◌, ◌*◌, ◌/◌, ◌<◌}
use mathlib.Core.Path.{◌≡◌, refl, sym, ap, ap₂, ◌∙◌}
use mathlib.Core.Bool.{Bool, true, false}
use mathlib.Core.Logic.{⊎_elim}
use mathlib.Core.List.{List}
use native.Mathlib.Nat.{eq-or-lt_of_le}
use native.Mathlib.Numerals.{add-one}
use native.Mathlib.Omega.{arith}
use lib.ListN.{length, take, length-take, length-drop}
use Rattle.replay.specs.Trace.{record_at, count_of}
use Rattle.replay.specs.Replay.{goes_in, with_record, recorded_to}
use Rattle.replay.specs.Waiting.{with_place, reserved_with, reserved_to, ReservesTo, FaultAt, Owned, AllOwned}
use Rattle.replay.proofs.Fine.{cut_not_in}

pub record Reserving (s t state : List ℕ) (n : ℕ) : Type 0 where
  pub is_state : state ≡ reserved_to s t n
  pub goes : (k : ℕ) → k < n → goes_in (reserved_to s t k) (record_at t k) ≡ true

pub reserving_start : (s t : List ℕ) → Reserving s t s 0
unfolding reserved_to
reserving_start s t = record { is_state = refl; goes = λ k l. absurd (omega arith) }

reserved_next : (s t x : List ℕ) (n : ℕ) → x ≡ reserved_to s t n → with_place x (take 16 (record_at t n)) ≡ reserved_to s t (n + 1)
unfolding reserved_to
reserved_next s t x n e = ap (λ (y : List ℕ). with_place y (take 16 (record_at t n))) e ∙ rw add-one

module _ (s t x : List ℕ) (n : ℕ) (v : Reserving s t x n) where
  -- record n is tested, and takes its place or does not
  module _ (b : Bool) (y : List ℕ) (r : List ℕ) (q : r ≡ record_at t n) (e : b ≡ goes_in x r) (m : y ≡ reserved_with b x r) where
    test : b ≡ goes_in (reserved_to s t n) (record_at t n)
    test = e ∙ ap₂ goes_in v.is_state q

    pub reserving_next : b ≡ true → Reserving s t y (n + 1)
    reserving_next g = record {
      is_state = m ∙ ap₂ (λ (c : Bool) (r : List ℕ). reserved_with c x r) g q ∙ reserved_next s t x n v.is_state;
      goes = λ k i. ⊎_elim (λ z. ap (λ (j : ℕ). goes_in (reserved_to s t j) (record_at t j)) z ∙ sym test ∙ g) (λ z. v.goes k z) (eq-or-lt_of_le {n = k} {m = n} (omega arith));
    }

    pub reserving_stop : n < length t / 32 → b ≡ false → FaultAt s t n y
    reserving_stop l g = record {
      so_far = record { is_state = m ∙ ap (λ (c : Bool). reserved_with c x r) g ∙ v.is_state; goes = v.goes };
      low = omega arith;
      stop = sym test ∙ g;
    }

  -- the whole records are through
  module _ (h : n ≡ length t / 32) where
    pub reserving_end : length t ≡ 32 * n → ReservesTo s t (count_of t) x
    reserving_end l = let z : n ≡ count_of t = omega arith in rw (← z) (record { is_state = v.is_state; goes = v.goes })

    pub reserving_cut : (m : ℕ) → m ≡ n → (length t ≡ 32 * n → ⊥) → FaultAt s t m x
    reserving_cut m e l =
        let c : length (record_at t n) < 32 = simp (length-take, length-drop) (omega arith) in
        rw e (record {
          so_far = record { is_state = v.is_state; goes = v.goes };
          low = omega arith;
          stop = cut_not_in (reserved_to s t n) (record_at t n) c;
        })

pub record Entering (s t state : List ℕ) (n : ℕ) : Type 0 where
  pub all : AllOwned s t
  pub is_state : state ≡ recorded_to s t n

pub entering_start : (s t : List ℕ) → AllOwned s t → Entering s t s 0
unfolding recorded_to
entering_start s t a = record { all = a; is_state = refl }

recorded_next : (s t x : List ℕ) (n : ℕ) → x ≡ recorded_to s t n → with_record x (record_at t n) ≡ recorded_to s t (n + 1)
unfolding recorded_to
recorded_next s t x n e = ap (λ (y : List ℕ). with_record y (record_at t n)) e ∙ rw add-one

module _ (s t x : List ℕ) (n : ℕ) (v : Entering s t x n) where
  module _ (r : List ℕ) (q : r ≡ record_at t n) where
    pub entering_owned : n < length t / 32 → Owned x (take 16 r)
    entering_owned l = rw (v.is_state, q) (v.all.owned n l)

    pub entering_next : (y : List ℕ) → y ≡ with_record x r → Entering s t y (n + 1)
    entering_next y m = record { all = v.all; is_state = m ∙ ap (with_record x) q ∙ recorded_next s t x n v.is_state }

  pub entering_end : n ≡ length t / 32 → x ≡ recorded_to s t (count_of t)
  entering_end l = let z : n ≡ count_of t = omega (arith, v.all.whole) in v.is_state ∙ ap (recorded_to s t) z
