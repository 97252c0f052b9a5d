-- Whether the first field is Version, by what the step at the start gives; and that with it the sections decide: by the cases of the step's answer.
use Rattle.std.proofs.Common.{Some, Ok, Err}
use Prim.Native.Nat.{ℕ, ◌+◌}
use mathlib.Core.Path.{◌≡◌, refl, sym, ap, ◌∙◌}
use mathlib.Core.Logic.{⊎_elim}
use mathlib.Core.Bool.{Bool, true, false, cond, ◌&&◌, false≢true}
use mathlib.Core.List.{List, ◌∷◌}
use native.Mathlib.Omega.{arith}
use lib.Dec.{eqb}
use lib.ListN.{get_or, drop}
use lib.Seq.{get_or-take, get_or-drop}
use borrow.Author.Tests.{eqb-true}
use Rattle.fields.specs.Stored.{room_of}
use Rattle.fields.specs.Step.{start, len_at, step_of}
use Rattle.fields.specs.declared.Taken.{Taken}
use Rattle.fields.proofs.Outcomes.{taken}
use Rattle.body.specs.Decision.{stored_at, fields_from, fields_of, exact_from, ends_empty, version_first, formed, headers_of, records_of, with_counts, not_well_formed, formed_of}
use Rattle.body.specs.Tally.{sections_of}
use Rattle.body.proofs.Division.{from_none}
use Rattle.body.proofs.Along.{from_took, taken_length, taken_kind, TakesNone, untaken}

pub version_took : (s : List ℕ) (t : Taken) → step_of s start ≡ Ok (Some t)
    → (eqb t.kind 0x00 && (eqb t.len 2 && eqb (get_or s 6 0) 0x03)) ≡ version_first (fields_of s)
version_took s t e =
    let l = taken_length s start t e in
    rw (from_took s start t e, ← l, ← taken_kind s start t e)
    (ap (◌&&◌ (eqb t.kind 0x00)) (by (eqb t.len 2) (λ x. second (sym (taken s start t e).len ∙ eqb-true t.len 2 x))))
  where
    second : len_at s 0 ≡ 2 → get_or s 6 0 ≡ get_or (stored_at s 0).content 1 0
    second x = sym (get_or-take (len_at s 0) (drop (0 + 5) s) 1 0 (omega arith) ∙ get_or-drop (0 + 5) s 1 0)

    by : (b : Bool) → (b ≡ true → get_or s 6 0 ≡ get_or (stored_at s 0).content 1 0)
        → (b && eqb (get_or s 6 0) 0x03) ≡ (b && eqb (get_or (stored_at s 0).content 1 0) 0x03)
    by false h = refl
    by true h = ap (λ (n : ℕ). eqb n 0x03) (h refl)

pub version_none : (s : List ℕ) → TakesNone s start → false ≡ version_first (fields_of s)
version_none s o =
    ⊎_elim (λ e. ap version_first (sym (from_none s 0 e)))
    (λ e. no_version (eqb-true (stored_at s 0).kind 0xff (left (eqb (stored_at s 0).kind 0xff) _ e.1)) ∙ ap version_first (sym e.0))
    (untaken s start refl o)
  where
    left : (a b : Bool) → (a && b) ≡ true → a ≡ true
    left true b h = refl
    left false b h = absurd (false≢true h)

    no_version : (stored_at s 0).kind ≡ 0xff → false ≡ version_first (stored_at s 0 ∷ fields_from s (0 + room_of (len_at s 0)))
    no_version k = rw k

pub judged_version : (s : List ℕ) → version_first (fields_of s) ≡ true → sections_of s ≡ formed_of s
unfolding sections_of formed_of formed
judged_version s h = rw h

pub judged_none : (s : List ℕ) → version_first (fields_of s) ≡ false → Err not_well_formed ≡ formed_of s
unfolding formed_of formed
judged_none s h = rw h (by (exact_from s 0) (ends_empty (fields_of s)))
  where
    by : (a b : Bool) → Err not_well_formed ≡ cond (a && (b && false)) (with_counts (headers_of s) (records_of s)) (Err not_well_formed)
    by true true = refl
    by true false = refl
    by false b = refl
