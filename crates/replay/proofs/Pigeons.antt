-- Events that are all among others have no more UUIDs than these: a list without repeats whose members are all in another is no longer than that. By recursion, taking each member out of the other list.
use Prim.Native.Nat.{ℕ, suc, ◌≤◌}
use mathlib.Core.Path.{◌≡◌, refl, sym, ap, ap₂, ◌∙◌}
use mathlib.Core.Bool.{Bool, true, false, cond}
use mathlib.Core.Logic.{◌⊎◌, ⊎_elim, inl, inr}
use mathlib.Core.List.{List, [], ◌∷◌, ◌++◌}
use native.Mathlib.Omega.{arith}
use lib.ListN.{length}
use Rattle.words.specs.Slices.{same}
use Rattle.words.proofs.SliceLaws.{same_refl, same_true}
use Rattle.replay.specs.Trace.{Event}
use Rattle.replay.specs.Cancelled.{In}
use Rattle.replay.specs.Acceptance.{within, joined, gathered, distinct}
use Rattle.words.proofs.Either.{same_false, differ, alike_or_not}
use Rattle.replay.proofs.Tests.{no}
use Rattle.replay.proofs.Gathered.{within_last, joined_own, joined_other}

-- no UUID stands there twice
unfoldable Apart : List (List ℕ) → Type 0
Apart [] = Unit {0}
Apart (u ∷ us) = (within u us ≡ false) × Apart us

-- us without the first u
unfoldable without : List ℕ → List (List ℕ) → List (List ℕ)
without u [] = []
without u (v ∷ vs) = cond (same v u) vs (v ∷ without u vs)

without_long : (u : List ℕ) (vs : List (List ℕ)) → within u vs ≡ true → length vs ≡ suc (length (without u vs))
unfolding without within
without_long u [] h = no (sym h)
without_long u (v ∷ vs) h = by (same v u) (without_long u vs) h
  where
    by : (b : Bool) → (within u vs ≡ true → length vs ≡ suc (length (without u vs))) → cond b true (within u vs) ≡ true → suc (length vs) ≡ suc (length (cond b vs (v ∷ without u vs)))
    by true r h = refl
    by false r h = ap suc (r h)

without_other : (u x : List ℕ) (vs : List (List ℕ)) → (u ≡ x → ⊥) → within x vs ≡ true → within x (without u vs) ≡ true
unfolding without within
without_other u x [] n h = h
without_other u x (v ∷ vs) n h = by (same v u) refl (same v x) refl (without_other u x vs n) h
  where
    by : (b : Bool) → same v u ≡ b → (c : Bool) → same v x ≡ c → (within x vs ≡ true → within x (without u vs) ≡ true) → cond c true (within x vs) ≡ true
        → within x (cond b vs (v ∷ without u vs)) ≡ true
    by true e true f r h = absurd (n (sym (same_true v u e) ∙ same_true v x f))
    by true e false f r h = h
    by false e true f r h = rw f
    by false e false f r h = rw f (r h)

own : (u : List ℕ) (us : List (List ℕ)) → within u (u ∷ us) ≡ true
unfolding within
own u us = rw (same_refl u)

deeper : (u x : List ℕ) (us : List (List ℕ)) → within x us ≡ true → within x (u ∷ us) ≡ true
unfolding within
deeper u x us h = by (same u x)
  where
    by : (b : Bool) → cond b true (within x us) ≡ true
    by true = refl
    by false = h

pigeons : (us vs : List (List ℕ)) → Apart us → ((u : List ℕ) → within u us ≡ true → within u vs ≡ true) → length us ≤ length vs
unfolding Apart
pigeons [] vs a h = omega arith
pigeons (u ∷ us) vs a h =
    omega (
      arith,
      without_long u vs (h u (own u us)),
      pigeons us (without u vs) a.1 (λ x w. without_other u x vs (λ e. no (sym w ∙ ap (λ (y : List ℕ). within y us) (sym e) ∙ a.0)) (h x (deeper u x us w))),
    )

apart_last : (us : List (List ℕ)) (w : List ℕ) → Apart us → within w us ≡ false → Apart (us ++ (w ∷ []))
unfolding Apart within
apart_last [] w a h = (refl, tt)
apart_last (u ∷ us) w a h = by (same u w) refl h (apart_last us w a.1)
  where
    by : (b : Bool) → same u w ≡ b → cond b true (within w us) ≡ false → (within w us ≡ false → Apart (us ++ (w ∷ []))) → (within u (us ++ (w ∷ [])) ≡ false) × Apart (us ++ (w ∷ []))
    by true e h r = no h
    by false e h r = (within_last u w us ∙ ap₂ (λ (x y : Bool). cond x true y) a.0 (differ w u (λ q. same_false u w e (sym q))), r h)

apart_joined : (us : List (List ℕ)) (w : List ℕ) → Apart us → Apart (joined us w)
apart_joined us w a = by (within w us) refl
  where
    by : (b : Bool) → within w us ≡ b → Apart (cond b us (us ++ (w ∷ [])))
    by true e = a
    by false e = apart_last us w a e

apart_gathered : (us : List (List ℕ)) (es : List Event) → Apart us → Apart (gathered us es)
unfolding gathered
apart_gathered us [] a = a
apart_gathered us (e ∷ es) a = apart_gathered (joined us e.uuid) es (apart_joined us e.uuid a)

apart_distinct : (es : List Event) → Apart (distinct es)
unfolding Apart
apart_distinct es = apart_gathered [] es tt

-- what has come stays, and what comes is there
joined_keeps : (us : List (List ℕ)) (w u : List ℕ) → within u us ≡ true → within u (joined us w) ≡ true
joined_keeps us w u h = ⊎_elim (λ e. ap (λ (x : List ℕ). within x (joined us w)) (sym e) ∙ joined_own us w) (λ n. joined_other us w u n ∙ h) (alike_or_not w u)

keeps : (us : List (List ℕ)) (es : List Event) (u : List ℕ) → within u us ≡ true → within u (gathered us es) ≡ true
unfolding gathered
keeps us [] u h = h
keeps us (e ∷ es) u h = keeps (joined us e.uuid) es u (joined_keeps us e.uuid u h)

comes : (us : List (List ℕ)) (es : List Event) (e : Event) → In e es → within e.uuid (gathered us es) ≡ true
unfolding gathered In
comes us [] e i = absurd i
comes us (x ∷ es) e i =
    ⊎_elim
    (λ q. keeps (joined us x.uuid) es e.uuid (ap (λ (y : Event). within y.uuid (joined us x.uuid)) q ∙ joined_own us x.uuid))
    (λ j. comes (joined us x.uuid) es e j)
    i

-- an event of u
record Bearer (u : List ℕ) (es : List Event) : Type 0 where
  event : Event
  held : In event es
  of : event.uuid ≡ u

later : (u : List ℕ) (x : Event) (es : List Event) → Bearer u es → Bearer u (x ∷ es)
unfolding In
later u x es b = record { event = b.event; held = inr b.held; of = b.of }

now : (u : List ℕ) (x : Event) (es : List Event) → x.uuid ≡ u → Bearer u (x ∷ es)
unfolding In
now u x es q = record { event = x; held = inl refl; of = q }

comes_from : (us : List (List ℕ)) (es : List Event) (u : List ℕ) → within u (gathered us es) ≡ true → (within u us ≡ true) ⊎ Bearer u es
unfolding gathered
comes_from us [] u h = inl h
comes_from us (e ∷ es) u h =
    ⊎_elim
    (λ w. ⊎_elim (λ q. inr (now u e es q)) (λ n. inl (sym (joined_other us e.uuid u n) ∙ w)) (alike_or_not e.uuid u))
    (λ b. inr (later u e es b))
    (comes_from (joined us e.uuid) es u h)

none_within : (u : List ℕ) → within u [] ≡ true → ⊥
unfolding within
none_within u h = no (sym h)

pub fewer : (es fs : List Event) → ((e : Event) → In e es → In e fs) → length (distinct es) ≤ length (distinct fs)
fewer es fs f =
    pigeons (distinct es) (distinct fs) (apart_distinct es)
    (λ u h. ⊎_elim
    (λ w. absurd (none_within u w))
    (λ b. ap (λ (x : List ℕ). within x (distinct fs)) (sym b.of) ∙ comes [] fs b.event (f b.event b.held))
    (comes_from [] es u h))
