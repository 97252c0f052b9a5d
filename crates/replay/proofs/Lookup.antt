-- Where a look-up ends: at the first entry that it visits and that is free or its own. By recursion on how many it may visit.
use Prim.Native.Nat.{ℕ, zero, suc, ◌+◌, ◌<◌, ◌≤◌}
use mathlib.Core.Path.{◌≡◌, refl, sym, ap, ◌∙◌}
use mathlib.Core.Bool.{Bool, true, false, cond}
use mathlib.Core.Logic.{◌⊎◌, ⊎_elim, inl, inr}
use mathlib.Core.List.{List}
use native.Mathlib.Nat.{eq-or-lt_of_le}
use native.Mathlib.Omega.{arith}
use lib.Dec.{eqb}
use borrow.Author.Tests.{eq-eqb, ne_eqb, eqb-true}
use Rattle.words.specs.Slices.{same}
use Rattle.words.proofs.SliceLaws.{same_true}
use Rattle.replay.proofs.Tests.{no}
use Rattle.replay.specs.State.{entry_at, id_of, cancel_of, slot, stops, seek, place_of}

-- the look-up of u ends at the e-th entry that it visits
pub record Ends (s u : List ℕ) (e : ℕ) : Type 0 where
  pub near : e < 4096
  pub here : stops s u (slot u e) ≡ true
  pub before : (j : ℕ) → j < e → stops s u (slot u j) ≡ false

slot_small : (u : List ℕ) (d : ℕ) → slot u d < 4096
slot_small u d = omega arith

module _ (s u : List ℕ) where
  seek_is : (n d e : ℕ) → d ≤ e → e < d + n → stops s u (slot u e) ≡ true → ((j : ℕ) → d ≤ j → j < e → stops s u (slot u j) ≡ false) → seek s u n d ≡ slot u e
  unfolding seek
  seek_is zero d e a b t f = absurd (omega arith)
  seek_is (suc n) d e a b t f =
      ⊎_elim
      (λ q. ap (λ (b : Bool). cond b (slot u d) (seek s u n (d + 1))) (ap (λ (j : ℕ). stops s u (slot u j)) q ∙ t) ∙ ap (slot u) q)
      (λ q. ap (λ (b : Bool). cond b (slot u d) (seek s u n (d + 1))) (f d (omega arith) q) ∙ (seek_is n (d + 1) e (omega arith) (omega arith) t (λ j g. f j (omega arith))))
      (eq-or-lt_of_le a)

  pub ends_place : (e : ℕ) → Ends s u e → place_of s u ≡ slot u e
  ends_place e x = seek_is 4096 0 e (omega arith) (omega (arith, x.near)) x.here (λ j g. x.before j)

  -- what a search among n entries comes to
  pub record Hit (n d i : ℕ) : Type 0 where
    pub at : ℕ
    pub from : d ≤ at
    pub to : at < d + n
    pub is : i ≡ slot u at
    pub stop : stops s u (slot u at) ≡ true
    pub go : (j : ℕ) → d ≤ j → j < at → stops s u (slot u j) ≡ false

  seek_hit : (n d : ℕ) → seek s u n d < 4096 → Hit n d (seek s u n d)
  unfolding seek
  seek_hit zero d h = absurd (omega arith)
  seek_hit (suc n) d h = by (stops s u (slot u d)) refl (seek_hit n (d + 1)) h
    where
      by : (b : Bool) → stops s u (slot u d) ≡ b → (seek s u n (d + 1) < 4096 → Hit n (d + 1) (seek s u n (d + 1))) → cond b (slot u d) (seek s u n (d + 1)) < 4096 → Hit (suc n) d (cond b (slot u d) (seek s u n (d + 1)))
      by true e r h = record { at = d; from = omega arith; to = omega arith; is = refl; stop = e; go = λ j f g. absurd (omega arith) }
      by false e r h =
          let x = r h in
          record {
            at = x.at;
            from = omega (arith, x.from);
            to = omega (arith, x.to);
            is = x.is;
            stop = x.stop;
            go = λ j f g. ⊎_elim (λ q. rw (← q) e) (λ q. x.go j (omega arith) g) (eq-or-lt_of_le f);
          }

  pub place_ends : place_of s u < 4096 → (e : ℕ) × Ends s u e × (place_of s u ≡ slot u e)
  place_ends h =
      let x = seek_hit 4096 0 h in
      (x.at, record { near = omega (arith, x.to); here = x.stop; before = λ j. x.go j (omega arith) }, x.is)

  -- an entry at which the look-up stops is free or u's; one that it passes is another's
  pub stop_cases : (k : ℕ) → stops s u k ≡ true → (cancel_of (entry_at s k) ≡ 0) ⊎ (id_of (entry_at s k) ≡ u)
  unfolding stops
  stop_cases k h = by (eqb (cancel_of (entry_at s k)) 0) refl h
    where
      by : (b : Bool) → eqb (cancel_of (entry_at s k)) 0 ≡ b → cond b true (same (id_of (entry_at s k)) u) ≡ true → (cancel_of (entry_at s k) ≡ 0) ⊎ (id_of (entry_at s k) ≡ u)
      by true e h = inl (eqb-true (cancel_of (entry_at s k)) 0 e)
      by false e h = inr (same_true (id_of (entry_at s k)) u h)

  pub stop_free : (k : ℕ) → cancel_of (entry_at s k) ≡ 0 → stops s u k ≡ true
  unfolding stops
  stop_free k h = rw (eq-eqb (cancel_of (entry_at s k)) 0 h)

  pub stop_taken : (k : ℕ) → (cancel_of (entry_at s k) ≡ 0 → ⊥) → stops s u k ≡ same (id_of (entry_at s k)) u
  unfolding stops
  stop_taken k h = rw (ne_eqb (cancel_of (entry_at s k)) 0 h)

  pub pass_taken : (k : ℕ) → stops s u k ≡ false → cancel_of (entry_at s k) ≡ 0 → ⊥
  pass_taken k h z = no (sym (stop_free k z) ∙ h)

-- the same entry, the same answer
pub stops_alike : (s t u : List ℕ) (k : ℕ) → entry_at s k ≡ entry_at t k → stops s u k ≡ stops t u k
unfolding stops
stops_alike s t u k e = rw e

-- the same tests, the same place
seek_alike : (s t u : List ℕ) → ((k : ℕ) → k < 4096 → stops s u k ≡ stops t u k) → (n d : ℕ) → seek s u n d ≡ seek t u n d
unfolding seek
seek_alike s t u h zero d = refl
seek_alike s t u h (suc n) d =
    ap (λ (b : Bool). cond b (slot u d) (seek s u n (d + 1))) (h (slot u d) (slot_small u d))
    ∙ ap (λ (x : ℕ). cond (stops t u (slot u d)) (slot u d) x) (seek_alike s t u h n (d + 1))

pub places_alike : (s t u : List ℕ) → ((k : ℕ) → k < 4096 → stops s u k ≡ stops t u k) → place_of s u ≡ place_of t u
places_alike s t u h = seek_alike s t u h 4096 0
