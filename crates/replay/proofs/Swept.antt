-- What the first pass reserved is swept away to the last byte: it went into free entries, which are zeros, and no entry of a state waits.
use Prim.Native.Nat.{ℕ, zero, suc, ◌<◌, ◌≤◌}
use mathlib.Core.Path.{◌≡◌, refl, sym, ap, ◌∙◌}
use mathlib.Core.Bool.{Bool, true, false, cond}
use lib.Dec.{eqb}
use mathlib.Core.Logic.{◌⊎◌, ⊎_elim, inl, inr}
use mathlib.Core.List.{List}
use native.Mathlib.Omega.{arith}
use borrow.Author.Tests.{eq-eqb, ne_eqb}
use lib.ListN.{length, take}
use Rattle.words.specs.Numbers.{Bytes}
use Rattle.words.specs.Slices.{zeros}
use Rattle.replay.specs.Trace.{record_at}
use Rattle.replay.specs.State.{entry_at, cancel_of, put, place_of}
use Rattle.replay.specs.Waiting.{waiting, with_place, reserved_to, swept_at, swept_to}
use Rattle.words.proofs.Either.{eq_or_ne}
use Rattle.replay.proofs.Tidy.{Tidy, tidy_free, not_one}
use Rattle.replay.proofs.Entries.{entry_cancel, entry_long, put_long, put_here, put_there, state_same}
use Rattle.replay.proofs.Fine.{id_long}
use Rattle.replay.proofs.Placed as placed
use Rattle.replay.proofs.Placed.{free}
use Rattle.replay.proofs.Passes as passes
use Rattle.replay.proofs.Passes.{Long, AllGo, goes_both}

-- an entry stays as long as it is
swept_long : (e : List ℕ) → length e ≡ 32 → length (swept_at e) ≡ 32
swept_long e h = by (eqb (cancel_of e) 1)
  where
    by : (t : Bool) → length (cond t (zeros 32) e) ≡ 32
    by true = refl
    by false = h

-- an entry of s that was free and waits for a UUID
pub record Waits (s : List ℕ) (k : ℕ) (e : List ℕ) : Type 0 where
  pub was_free : free s k
  pub for : List ℕ
  pub long : length for ≡ 16
  pub is : e ≡ waiting for

-- y is s, but that entries which were free may wait
abbrev pub Reserved : List ℕ → List ℕ → Type 0
Reserved s y = (k : ℕ) → k < 4096 → (entry_at y k ≡ entry_at s k) ⊎ Waits s k (entry_at y k)

one_waits : (u : List ℕ) → length u ≡ 16 → cancel_of (waiting u) ≡ 1
one_waits u h = entry_cancel u 1 0 h (omega arith)

module _ (s y : List ℕ) (v : Long y) (h : Reserved s y) (w : List ℕ) (l : length w ≡ 16) (p : place_of y w < 4096) where
  -- an entry that is free in y was free in s
  was_free : free y (place_of y w) → free s (place_of y w)
  was_free z = ⊎_elim (λ e. ap cancel_of (sym e) ∙ z) (λ x. x.was_free) (h (place_of y w) p)

  reserved_next : Reserved s (with_place y w)
  reserved_next k g = ⊎_elim new (λ t. old (passes.kept_taken y v w l p t)) (eq_or_ne (cancel_of (entry_at y (place_of y w))) 0)
    where
      old : with_place y w ≡ y → (entry_at (with_place y w) k ≡ entry_at s k) ⊎ Waits s k (entry_at (with_place y w) k)
      old e = rw e (h k g)

      new : free y (place_of y w) → (entry_at (with_place y w) k ≡ entry_at s k) ⊎ Waits s k (entry_at (with_place y w) k)
      new z =
          let e = passes.kept_free y v w l p z in
          ⊎_elim
          (λ q. inr (record {
            was_free = ap (λ (j : ℕ). cancel_of (entry_at s j)) q ∙ was_free z;
            for = w;
            long = l;
            is = ap (λ (x : List ℕ). entry_at x k) e ∙ ap (entry_at (put y (place_of y w) (waiting w))) q ∙ placed.here y v.long w 1 0 l p (omega arith) (omega arith);
          }))
          (λ n. rw (passes.there y v w l p k n) (h k g))
          (eq_or_ne k (place_of y w))

module _ (t : List ℕ) (b : Bytes t) (s : List ℕ) (v : Tidy s) where
  pub reserved_to_lem : (n : ℕ) → AllGo t b s v n → Reserved s (reserved_to s t n)
  unfolding reserved_to
  reserved_to_lem zero g = λ k l. inl refl
  reserved_to_lem (suc n) g =
      let h = passes.passed t b s v n (λ k l. g k (omega arith)) in
      let i = goes_both (reserved_to s t n) (record_at t n) (g n (omega arith)) in
      reserved_next s (reserved_to s t n) h.long (reserved_to_lem n (λ k l. g k (omega arith))) (take 16 (record_at t n)) (id_long (record_at t n) i.0) i.1

-- sweeping y, entry by entry
module _ (y : List ℕ) (l : length y ≡ 131072) where
  swept_size : (n : ℕ) → n ≤ 4096 → length (swept_to y n) ≡ 131072
  unfolding swept_to
  swept_size zero m = l
  swept_size (suc n) m =
      let z = swept_size n (omega arith) in
      put_long (swept_to y n) n (swept_at (entry_at (swept_to y n) n)) z (omega arith) (swept_long (entry_at (swept_to y n) n) (entry_long (swept_to y n) n z (omega arith)))

  -- those from n on are as they were, those before are swept
  module _ (n : ℕ) (m : n < 4096) where
    z : length (swept_to y n) ≡ 131072
    z = swept_size n (omega arith)

    e : length (swept_at (entry_at (swept_to y n) n)) ≡ 32
    e = swept_long (entry_at (swept_to y n) n) (entry_long (swept_to y n) n z m)

    here : entry_at (swept_to y (suc n)) n ≡ swept_at (entry_at (swept_to y n) n)
    unfolding swept_to
    here = put_here (swept_to y n) n (swept_at (entry_at (swept_to y n) n)) z m e

    there : (k : ℕ) → (k ≡ n → ⊥) → entry_at (swept_to y (suc n)) k ≡ entry_at (swept_to y n) k
    unfolding swept_to
    there = put_there (swept_to y n) n (swept_at (entry_at (swept_to y n) n)) z m e

  ahead : (n : ℕ) → n ≤ 4096 → (k : ℕ) → n ≤ k → entry_at (swept_to y n) k ≡ entry_at y k
  unfolding swept_to
  ahead zero m k g = refl
  ahead (suc n) m k g = there n (omega arith) k (λ q. omega arith) ∙ ahead n (omega arith) k (omega arith)

  behind : (n : ℕ) → n ≤ 4096 → (k : ℕ) → k < n → entry_at (swept_to y n) k ≡ swept_at (entry_at y k)
  behind zero m k g = absurd (omega arith)
  behind (suc n) m k g =
      ⊎_elim
      (λ q. ap (entry_at (swept_to y (suc n))) q ∙ here n (omega arith) ∙ ap swept_at (ahead n (omega arith) n (omega arith)) ∙ ap (λ (j : ℕ). swept_at (entry_at y j)) (sym q))
      (λ q. there n (omega arith) k q ∙ behind n (omega arith) k (omega arith))
      (eq_or_ne k n)

pub swept_back : (s y : List ℕ) → Tidy s → length y ≡ 131072 → Reserved s y → swept_to y 4096 ≡ s
swept_back s y v l h = state_same (swept_to y 4096) s (swept_size y l 4096 (omega arith)) v.long (λ k g. behind y l 4096 (omega arith) k g ∙ ⊎_elim (kept k g) (gone k g) (h k g))
  where
    kept : (k : ℕ) → k < 4096 → entry_at y k ≡ entry_at s k → swept_at (entry_at y k) ≡ entry_at s k
    kept k g e = ap swept_at e ∙ ap (λ (b : Bool). cond b (zeros 32) (entry_at s k)) (ne_eqb (cancel_of (entry_at s k)) 1 (not_one (entry_at s k) (v.each k g)))

    gone : (k : ℕ) → k < 4096 → Waits s k (entry_at y k) → swept_at (entry_at y k) ≡ entry_at s k
    gone k g x =
        ap (λ (b : Bool). cond b (zeros 32) (entry_at y k)) (eq-eqb (cancel_of (entry_at y k)) 1 (ap cancel_of x.is ∙ one_waits x.for x.long))
        ∙ sym (tidy_free (entry_at s k) (v.each k g) x.was_free)
