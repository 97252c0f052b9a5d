-- No list has two answers: of two first repetitions neither comes before the other.
use Prim.Native.Nat.{ℕ, ◌<◌}
use mathlib.Core.Path.{◌≡◌, refl, sym, ap}
use mathlib.Core.Logic.{⊎_elim}
use mathlib.Core.List.{List}
use native.Mathlib.Nat.{eq-or-lt_of_le}
use Rattle.std.specs.Prelude.{Option, Some, None}
use Rattle.words.proofs.Either.{lt_or_ge}
use Rattle.uuids.specs.Uuids.{Repeats}

module _ (us : List (List ℕ)) where
  -- one that comes before the other would be a repetition before the first
  not_before : (i j : ℕ) → Repeats us (Some i) → Repeats us (Some j) → i < j → ⊥
  not_before i j x y l = y.2 i x.1.0 l x.1.1 x.1.2

  pub one_answer : (r t : Option ℕ) → Repeats us r → Repeats us t → r ≡ t
  one_answer (Some i) (Some j) x y =
      ⊎_elim (λ l. absurd (not_before i j x y l)) (λ l. ⊎_elim (λ e. ap Some (sym e)) (λ g. absurd (not_before j i y x g)) (eq-or-lt_of_le l)) (lt_or_ge i j)
  one_answer (Some i) None x y = absurd (y i x.1.0 x.0 x.1.1 x.1.2)
  one_answer None (Some j) x y = absurd (x j y.1.0 y.0 y.1.1 y.1.2)
  one_answer None None x y = refl
