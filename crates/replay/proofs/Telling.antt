-- What a state says of a login: of one that means the events es, what the largest marks of es say, and that is how the login stands. By the tests.
use Prim.Native.Nat.{ℕ, ◌-◌, ◌<◌, ◌≤◌}
use mathlib.Core.Path.{◌≡◌, refl, sym, ap₂, ◌∙◌}
use mathlib.Core.Bool.{Bool, true, false, cond}
use mathlib.Core.Logic.{⊎_elim}
use mathlib.Core.List.{List}
use native.Mathlib.Omega.{arith}
use lib.Dec.{ltb, leb}
use borrow.Author.Tests.{eq-eqb, lt-ltb, le-ltb, le-leb, leb-true, ltb-false}
use lib.ListN.{length}
use Rattle.replay.specs.Trace.{Event}
use Rattle.replay.specs.State.{place_of, found_in}
use Rattle.std.specs.Prelude.{Ok}
use Rattle.replay.specs.Replay.{Stood, latest_of, closed, login_of, told_at, standing_of}
use Rattle.replay.specs.Calls.{LatestIs, StandsAs}
use Rattle.replay.specs.declared.Login.{Login}
use Rattle.words.proofs.Either.{lt_or_ge}
use Rattle.replay.proofs.Tests.{no}
use Rattle.replay.proofs.Tidy.{Tidy}
use Rattle.replay.proofs.Sound.{cancel_for, reissue_for}
use Rattle.replay.proofs.Marks.{mark_in, mark_latest, mark_none, marks_cancelled, cancelled_marks}
use Rattle.replay.proofs.Means.{Means}

module _ (s u : List ℕ) (v : Tidy s) where
  told_at_lem : told_at s (found_in s u) ≡ Ok (login_of (cancel_for s u) (reissue_for s u))
  told_at_lem = ⊎_elim inside outside (lt_or_ge (place_of s u) 4096)
    where
      inside : place_of s u < 4096 → told_at s (found_in s u) ≡ Ok (login_of (cancel_for s u) (reissue_for s u))
      inside p = rw (lt-ltb (place_of s u) 4096 p, v.each (place_of s u) p)

      outside : 4096 ≤ place_of s u → told_at s (found_in s u) ≡ Ok (login_of (cancel_for s u) (reissue_for s u))
      outside p = rw (le-ltb (place_of s u) 4096 p)

  pub told_marks : standing_of s u ≡ Ok (login_of (cancel_for s u) (reissue_for s u))
  unfolding standing_of
  told_marks = rw (eq-eqb (length s) 131072 v.long) told_at_lem

pub told : (s : List ℕ) (es : List Event) (u : List ℕ) → Means s es → standing_of s u ≡ Ok (login_of (mark_in 2 u es) (mark_in 3 u es))
told s es u v = told_marks s u v.sound.state ∙ ap₂ (λ (c d : ℕ). Ok (login_of c d)) (v.cancels u) (v.reissues u)

closed_true : (c d : ℕ) → closed c d ≡ true → (8589934592 ≤ c) × (d ≤ c)
closed_true c d h = by (ltb c 8589934592) refl h
  where
    by : (b : Bool) → ltb c 8589934592 ≡ b → cond b false (leb d c) ≡ true → (8589934592 ≤ c) × (d ≤ c)
    by true e h = no (sym h)
    by false e h = (ltb-false c 8589934592 e, leb-true d c h)

true_closed : (c d : ℕ) → 8589934592 ≤ c → d ≤ c → closed c d ≡ true
true_closed c d a b = rw (le-ltb c 8589934592 a, le-leb d c b)

module _ (u : List ℕ) (es : List Event) where
  latest : (k : ℕ) → LatestIs k u es (latest_of (mark_in k u es))
  latest k =
      ⊎_elim
      (λ l. rw (lt-ltb (mark_in k u es) 8589934592 l) (mark_none k u es l))
      (λ g. rw (le-ltb (mark_in k u es) 8589934592 g) (mark_latest k u es g (mark_in k u es - 8589934592) (omega arith)))
      (lt_or_ge (mark_in k u es) 8589934592)

  pub marks_stand : StandsAs u es (login_of (mark_in 2 u es) (mark_in 3 u es))
  marks_stand = record {
    cancelled = (
      λ h. let t = closed_true (mark_in 2 u es) (mark_in 3 u es) h in marks_cancelled u es t.0 t.1,
      λ c. let t = cancelled_marks u es c in true_closed (mark_in 2 u es) (mark_in 3 u es) t.0 t.1,
    );
    cancel = latest 2;
    reissue = latest 3;
  }

pub ok_inj : {l m : Login} → ◌≡◌ {A = Stood} (Ok l) (Ok m) → l ≡ m
ok_inj e = cc
