-- What a tidy entry holds, zeros or two marks, and what makes one: by the tests. A state's entries are all tidy: by recursion on their number.
use Prim.Native.Nat.{ℕ, zero, suc, ◌^◌, ◌<◌, ◌≤◌, max}
use mathlib.Core.Path.{◌≡◌, refl, sym, ap, ◌∙◌}
use mathlib.Core.Bool.{Bool, true, false, cond}
use mathlib.Core.Logic.{◌⊎◌, ⊎_elim, inl, inr}
use mathlib.Core.List.{List}
use native.Mathlib.Nat.{eq-or-lt_of_le}
use native.Mathlib.Omega.{arith}
use lib.Dec.{eqb, ltb}
use borrow.Author.Tests.{eq-eqb, ne_eqb, lt-ltb, le-ltb, eqb-true, ltb-true}
use lib.ListN.{length}
use Rattle.words.specs.Numbers.{number_low}
use Rattle.words.specs.Slices.{zeros, same}
use Rattle.words.proofs.SliceLaws.{same_true}
use Rattle.replay.specs.Trace.{Event}
use Rattle.replay.specs.State.{entry_at, cancel_of, reissue_of, entry_of, is_mark, tidy, tidy_to, is_state, mark_of}
use Rattle.words.proofs.Either.{lt_or_ge, eq_or_ne}
use Rattle.replay.proofs.Tests.{no}
use Rattle.replay.proofs.Blank.{none_in}
use Rattle.replay.proofs.Entries.{entry_cancel, entry_reissue}
use Rattle.replay.proofs.Marks.{of_kind, of_other}

-- a test after another
pub both : (a b : Bool) → cond a b false ≡ true → (a ≡ true) × (b ≡ true)
both true b h = (refl, h)
both false b h = no (sym h)

-- the numbers that are marks
pub mark_range : (m : ℕ) → is_mark m ≡ true → (4294967296 ≤ m) × (m < 12884901888)
mark_range m h = by (eqb m 4294967296) refl (ltb m 8589934592) refl h
  where
    by : (a : Bool) → eqb m 4294967296 ≡ a → (b : Bool) → ltb m 8589934592 ≡ b → cond a true (cond b false (ltb m 12884901888)) ≡ true
        → (4294967296 ≤ m) × (m < 12884901888)
    by true e b f h = let q = eqb-true m 4294967296 e in (omega arith, omega arith)
    by false e true f h = no (sym h)
    by false e false f h = (⊎_elim (λ l. no (sym (lt-ltb m 8589934592 l) ∙ f)) (λ g. omega arith) (lt_or_ge m 8589934592), ltb-true m 12884901888 h)

pub least_mark : (m : ℕ) → m ≡ 4294967296 → is_mark m ≡ true
least_mark m e = rw (eq-eqb m 4294967296 e)

pub time_mark : (m : ℕ) → 8589934592 ≤ m → m < 12884901888 → is_mark m ≡ true
time_mark m l h = rw (ne_eqb m 4294967296 (λ e. omega arith), le-ltb m 8589934592 l, lt-ltb m 12884901888 h)

pub event_mark : (k : ℕ) (e : Event) → e.time < 2 ^ 32 → is_mark (mark_of k e) ≡ true
event_mark k e t =
    ⊎_elim
    (λ q. time_mark (mark_of k e) (omega (arith, of_kind k e q)) (omega (arith, of_kind k e q)))
    (λ n. least_mark (mark_of k e) (of_other k e n))
    (eq_or_ne e.kind k)

-- nothing or a mark, and a mark: the larger is a mark
pub larger_mark : (a b : ℕ) → (a ≡ 0) ⊎ (is_mark a ≡ true) → is_mark b ≡ true → is_mark (max a b) ≡ true
larger_mark a b o h =
    ⊎_elim
    (λ l. let q : max a b ≡ b = omega arith in ap is_mark q ∙ h)
    (λ g. let q : max a b ≡ a = omega arith in ap is_mark q ∙ ⊎_elim (λ z. absurd (omega (arith, mark_range b h))) (λ m. m) o)
    (lt_or_ge a b)

module _ (e : List ℕ) (h : tidy e ≡ true) where
  pub tidy_free : cancel_of e ≡ 0 → e ≡ zeros 32
  unfolding tidy
  tidy_free z = same_true e (zeros 32) (sym (ap (λ (b : Bool). cond b (same e (zeros 32)) (cond (is_mark (cancel_of e)) (is_mark (reissue_of e)) false)) (eq-eqb (cancel_of e) 0 z)) ∙ h)

  pub tidy_taken : (cancel_of e ≡ 0 → ⊥) → (is_mark (cancel_of e) ≡ true) × (is_mark (reissue_of e) ≡ true)
  unfolding tidy
  tidy_taken n =
      both (is_mark (cancel_of e)) (is_mark (reissue_of e))
      (sym (ap (λ (b : Bool). cond b (same e (zeros 32)) (cond (is_mark (cancel_of e)) (is_mark (reissue_of e)) false)) (ne_eqb (cancel_of e) 0 n)) ∙ h)

  pub tidy_cancel : (cancel_of e ≡ 0) ⊎ (is_mark (cancel_of e) ≡ true)
  tidy_cancel = ⊎_elim (λ z. inl z) (λ n. inr (tidy_taken n).0) (eq_or_ne (cancel_of e) 0)

  pub tidy_blank : cancel_of e ≡ 0 → reissue_of e ≡ 0
  tidy_blank z = ap reissue_of (tidy_free z) ∙ none_in 8 24 32

  pub tidy_reissue : (reissue_of e ≡ 0) ⊎ (is_mark (reissue_of e) ≡ true)
  tidy_reissue = ⊎_elim (λ z. inl (tidy_blank z)) (λ n. inr (tidy_taken n).1) (eq_or_ne (cancel_of e) 0)

  pub not_one : cancel_of e ≡ 1 → ⊥
  not_one q = ⊎_elim (λ z. omega arith) (λ m. omega (arith, mark_range (cancel_of e) m)) tidy_cancel

small : (m : ℕ) → (m ≡ 0) ⊎ (is_mark m ≡ true) → m < 12884901888
small m o = ⊎_elim (λ z. omega arith) (λ h. omega (arith, mark_range m h)) o

pub record Small (e : List ℕ) : Type 0 where
  pub cancel : cancel_of e < 12884901888
  pub reissue : reissue_of e < 12884901888

pub tidy_small : (e : List ℕ) → tidy e ≡ true → Small e
tidy_small e h = record { cancel = small (cancel_of e) (tidy_cancel e h); reissue = small (reissue_of e) (tidy_reissue e h) }

pub zeros_tidy : tidy (zeros 32) ≡ true
unfolding tidy number_low same
zeros_tidy = refl

pub entry_tidy : (w : List ℕ) (c d : ℕ) → length w ≡ 16 → is_mark c ≡ true → is_mark d ≡ true → tidy (entry_of w c d) ≡ true
unfolding tidy
entry_tidy w c d h p q =
    let x : cancel_of (entry_of w c d) ≡ c = entry_cancel w c d h (omega (arith, mark_range c p)) in
    let y : reissue_of (entry_of w c d) ≡ d = entry_reissue w c d h (omega (arith, mark_range d q)) in
    rw (x, y, ne_eqb c 0 (λ z. omega (arith, mark_range c p)), p) q

-- the entries of a state
pub tidy_to_lem : (s : List ℕ) (n : ℕ) → tidy_to s n ≡ true → (k : ℕ) → k < n → tidy (entry_at s k) ≡ true
unfolding tidy_to
tidy_to_lem s zero h k l = absurd (omega arith)
tidy_to_lem s (suc n) h k l =
    let b = both (tidy_to s n) (tidy (entry_at s n)) h in
    ⊎_elim (λ e. ap (λ (i : ℕ). tidy (entry_at s i)) e ∙ b.1) (λ g. tidy_to_lem s n b.0 k g) (eq-or-lt_of_le {n = k} {m = n} (omega arith))

pub to_tidy : (s : List ℕ) (n : ℕ) → ((k : ℕ) → k < n → tidy (entry_at s k) ≡ true) → tidy_to s n ≡ true
unfolding tidy_to
to_tidy s zero f = refl
to_tidy s (suc n) f = rw (to_tidy s n (λ k l. f k (omega arith))) (f n (omega arith))

pub record Tidy (s : List ℕ) : Type 0 where
  pub long : length s ≡ 131072
  pub each : (k : ℕ) → k < 4096 → tidy (entry_at s k) ≡ true

pub is_tidy : (s : List ℕ) → is_state s ≡ true → Tidy s
unfolding is_state
is_tidy s h = let b = both (eqb (length s) 131072) (tidy_to s 4096) h in record { long = eqb-true (length s) 131072 b.0; each = tidy_to_lem s 4096 b.1 }

pub tidy_is : (s : List ℕ) → Tidy s → is_state s ≡ true
unfolding is_state
tidy_is s v = rw (eq-eqb (length s) 131072 v.long) (to_tidy s 4096 v.each)
