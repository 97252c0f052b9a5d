-- How many entries are taken: one more where a free one is taken, as many where a taken one is written, and all where a look-up finds no place. By recursion on the number of entries.
use Prim.Native.Nat.{ℕ, zero, suc, ◌+◌, ◌<◌, ◌≤◌}
use mathlib.Core.Path.{◌≡◌, refl, sym, ap, ap₂, ◌∙◌}
use mathlib.Core.Bool.{Bool, true, false, cond}
use mathlib.Core.Logic.{⊎_elim}
use mathlib.Core.List.{List}
use native.Mathlib.Nat.{eq-or-lt_of_le}
use native.Mathlib.Omega.{arith}
use borrow.Author.Tests.{eq-eqb, ne_eqb}
use lib.Dec.{eqb}
use Rattle.replay.specs.State.{entry_at, cancel_of, slot, stops, seek, place_of}
use Rattle.words.proofs.Either.{eq_or_ne}
use Rattle.replay.proofs.Visits.{visits}
use Rattle.replay.proofs.Lookup.{pass_taken}

abbrev one : ℕ → ℕ
one c = cond (eqb c 0) 0 1

-- the taken ones of the first n entries
unfoldable pub taken : List ℕ → ℕ → ℕ
taken s zero = 0
taken s (suc n) = one (cancel_of (entry_at s n)) + taken s n

one_most : (c : ℕ) → one c ≤ 1
one_most c = ⊎_elim (λ e. rw (eq-eqb c 0 e) (omega arith)) (λ n. rw (ne_eqb c 0 n) (omega arith)) (eq_or_ne c 0)

pub taken_most : (s : List ℕ) (n : ℕ) → taken s n ≤ n
unfolding taken
taken_most s zero = omega arith
taken_most s (suc n) = omega (arith, one_most (cancel_of (entry_at s n)), taken_most s n)

pub taken_all : (s : List ℕ) (n : ℕ) → ((k : ℕ) → k < n → cancel_of (entry_at s k) ≡ 0 → ⊥) → taken s n ≡ n
unfolding taken
taken_all s zero h = refl
taken_all s (suc n) h = ap₂ ◌+◌ (ap (λ (b : Bool). cond b 0 1) (ne_eqb (cancel_of (entry_at s n)) 0 (h n (omega arith)))) (taken_all s n (λ k l. h k (omega arith))) ∙ omega arith

-- t is s but for entry i, which is taken in t
module _ (s t : List ℕ) (i : ℕ) (there : (k : ℕ) → (k ≡ i → ⊥) → entry_at t k ≡ entry_at s k) (full : cancel_of (entry_at t i) ≡ 0 → ⊥) where
  pub taken_again : (cancel_of (entry_at s i) ≡ 0 → ⊥) → (n : ℕ) → taken t n ≡ taken s n
  unfolding taken
  taken_again h zero = refl
  taken_again h (suc n) =
      ap₂ ◌+◌
      (⊎_elim
      (λ e. ap (λ (k : ℕ). one (cancel_of (entry_at t k))) e ∙ ap (λ (b : Bool). cond b 0 1) (ne_eqb _ 0 full ∙ sym (ne_eqb (cancel_of (entry_at s i)) 0 h)) ∙ ap (λ (k : ℕ). one (cancel_of (entry_at s k))) (sym e))
      (λ m. ap (λ (e : List ℕ). one (cancel_of e)) (there n m))
      (eq_or_ne n i))
      (taken_again h n)

  module _ (h : cancel_of (entry_at s i) ≡ 0) where
    before : (n : ℕ) → n ≤ i → taken t n ≡ taken s n
    unfolding taken
    before zero l = refl
    before (suc n) l = ap₂ ◌+◌ (ap (λ (e : List ℕ). one (cancel_of e)) (there n (λ e. omega arith))) (before n (omega arith))

    none_here : one (cancel_of (entry_at s i)) ≡ 0
    none_here = rw (eq-eqb (cancel_of (entry_at s i)) 0 h)

    at_i : taken t (suc i) ≡ suc (taken s (suc i))
    unfolding taken
    at_i =
        ap₂ ◌+◌ (ap (λ (b : Bool). cond b 0 1) (ne_eqb (cancel_of (entry_at t i)) 0 full)) (before i (omega arith))
        ∙ omega (arith, none_here)

    pub taken_one : (n : ℕ) → i < n → taken t n ≡ suc (taken s n)
    unfolding taken
    taken_one zero l = absurd (omega arith)
    taken_one (suc n) l =
        ⊎_elim
        (λ e. ap (λ (k : ℕ). taken t (suc k)) (sym e) ∙ at_i ∙ ap (λ (k : ℕ). suc (taken s (suc k))) e)
        (λ g. omega (arith, ap (λ (e : List ℕ). one (cancel_of e)) (there n (λ e. omega arith)), taken_one n g))
        (eq-or-lt_of_le {n = i} {m = n} (omega arith))

-- no place: every entry is taken
passes : (s u : List ℕ) (n d : ℕ) → 4096 ≤ seek s u n d → (j : ℕ) → d ≤ j → j < d + n → stops s u (slot u j) ≡ false
unfolding seek
passes s u zero d h j a b = absurd (omega arith)
passes s u (suc n) d h j a b = by (stops s u (slot u d)) refl (passes s u n (d + 1)) h j a b
  where
    by : (b : Bool) → stops s u (slot u d) ≡ b → (4096 ≤ seek s u n (d + 1) → (j : ℕ) → d + 1 ≤ j → j < d + 1 + n → stops s u (slot u j) ≡ false)
        → 4096 ≤ cond b (slot u d) (seek s u n (d + 1)) → (j : ℕ) → d ≤ j → j < d + suc n → stops s u (slot u j) ≡ false
    by true e r h j p q = absurd (omega arith)
    by false e r h j p q = ⊎_elim (λ z. ap (λ (k : ℕ). stops s u (slot u k)) (sym z) ∙ e) (λ z. r h j (omega arith) (omega arith)) (eq-or-lt_of_le p)

pub no_place_full : (s u : List ℕ) → 4096 ≤ place_of s u → (k : ℕ) → k < 4096 → cancel_of (entry_at s k) ≡ 0 → ⊥
no_place_full s u h k l =
    let x = visits u k l in
    pass_taken s u k (ap (stops s u) (sym x.2) ∙ passes s u 4096 0 h x.0 (omega arith) (omega (arith, x.1)))

pub taken_none : (s : List ℕ) (n : ℕ) → ((k : ℕ) → k < n → cancel_of (entry_at s k) ≡ 0) → taken s n ≡ 0
unfolding taken
taken_none s zero h = refl
taken_none s (suc n) h =
    let z : one (cancel_of (entry_at s n)) ≡ 0 = rw (eq-eqb (cancel_of (entry_at s n)) 0 (h n (omega arith))) in
    omega (arith, z, taken_none s n (λ k l. h k (omega arith)))
