-- No two of a list are the same: as a test, by numbers, and as the search for the first repetition says it.
use Prim.Native.Nat.{ℕ, zero, suc, ◌<◌}
use mathlib.Core.Path.{◌≡◌, refl, sym, ap, ◌∙◌}
use mathlib.Core.Logic.{◌↔◌}
use mathlib.Core.Bool.{Bool, true, false, not, false≢true}
use mathlib.Core.List.{List, [], ◌∷◌, map}
use native.Mathlib.Omega.{arith}
use lib.ListN.{length, get_or, length-map}
use Rattle.std.proofs.Common.{Option, Some, None, is_none}
use Rattle.std.proofs.lemmas.List.{get_or-map}
use Rattle.words.specs.Each.{all_in}
use Rattle.words.specs.Slices.{same}
use Rattle.words.proofs.EachLaws.{both, and, each, each_at, each_from}
use Rattle.words.proofs.Either.{same_false, differ}
use Rattle.fields.specs.Stored.{Stored}
use Rattle.uuids.specs.Uuids.{Apart, Repeats}
use Rattle.body.specs.WellFormed.{uuid_of}
use Rattle.body.specs.Decision.{distinct}

apart : (u v : List ℕ) → (not (same u v) ≡ true) ↔ (u ≡ v → ⊥)
apart u v = (λ h. same_false u v (not_true (same u v) h), λ n. ap not (differ u v n))
  where
    not_true : (b : Bool) → not b ≡ true → b ≡ false
    not_true true h = absurd (false≢true h)
    not_true false h = refl

apart_distinct : (us : List (List ℕ)) → Apart us (length us) → distinct us ≡ true
unfolding distinct
apart_distinct [] f = refl
apart_distinct (u ∷ us) f =
    and (all_in (λ v. not (same u v)) us) (distinct us)
    ((each (λ v. not (same u v)) (λ v. u ≡ v → ⊥) (apart u) us).1 (each_from (λ v. u ≡ v → ⊥) us [] (λ k l. f (suc k) 0 (omega arith) (omega arith))))
    (apart_distinct us (λ i j h g. f (suc i) (suc j) (omega arith) (omega arith)))

distinct_apart : (us : List (List ℕ)) → distinct us ≡ true → Apart us (length us)
unfolding distinct
distinct_apart [] d i j l g e = absurd (omega arith)
distinct_apart (u ∷ us) d zero j l g e = absurd (omega arith)
distinct_apart (u ∷ us) d (suc i) zero l g e =
    each_at (λ v. u ≡ v → ⊥) us [] ((each (λ v. not (same u v)) (λ v. u ≡ v → ⊥) (apart u) us).0 (both (all_in (λ v. not (same u v)) us) (distinct us) d).0) i (omega arith) e
distinct_apart (u ∷ us) d (suc i) (suc j) l g e =
    distinct_apart us (both (all_in (λ v. not (same u v)) us) (distinct us) d).1 i j (omega arith) (omega arith) e

-- of the records
pub uuids_differ : (rs : List (List Stored))
    → (distinct (map uuid_of rs) ≡ true) ↔ ((i j : ℕ) → i < j → j < length rs → uuid_of (get_or rs i []) ≡ uuid_of (get_or rs j []) → ⊥)
uuids_differ rs = (
  λ d i j h l e.
      distinct_apart (map uuid_of rs) d j i (omega (arith, length-map rs uuid_of)) h (get_or-map uuid_of rs i [] [] (omega arith) ∙ e ∙ sym (get_or-map uuid_of rs j [] [] l)),
  λ f. apart_distinct (map uuid_of rs) (λ i j l h e.
      let k : i < length rs = omega (arith, length-map rs uuid_of) in
      f j i h k (sym (get_or-map uuid_of rs j [] [] (omega arith)) ∙ e ∙ get_or-map uuid_of rs i [] [] k)),
)

-- what the search says
pub told : (us : List (List ℕ)) (r : Option ℕ) → Repeats us r → is_none r ≡ distinct us
told us (Some i) x = by (distinct us) refl
  where
    by : (b : Bool) → distinct us ≡ b → false ≡ b
    by true e = absurd (distinct_apart us e i x.1.0 x.0 x.1.1 x.1.2)
    by false e = refl
told us None x = sym (apart_distinct us x)
