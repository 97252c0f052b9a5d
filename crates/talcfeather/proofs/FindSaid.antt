-- What `talc_find` answers, of the 16 bytes that it was given, and what its count says: what `find` says of them (body, FindCall.antt and FindCount.antt), by the contract of the call, and that the count fits its 8 bytes.
use Prim.Native.Nat.{ℕ, ◌+◌, ◌^◌, ◌/◌, ◌≤◌, ◌<◌}
use mathlib.Core.Path.{◌≡◌, refl, sym, ap, ◌∙◌}
use mathlib.Core.List.{List, [], ◌∷◌, ◌++◌}
use native.Mathlib.Nat.{mod-eq_of_lt}
use native.Mathlib.Omega.{arith}
use lib.ListN.{length, get_or, take, drop}
use Rattle.words.specs.Numbers.{number_low, bytes_low}
use Rattle.words.proofs.NumberLaws.{number_bytes}
use Rattle.fields.specs.Stored.{Stored}
use Rattle.body.specs.Find.{HasUuid, Says, find_number, find_values}
use Rattle.body.specs.Visited.{Decides, Visited}
use Rattle.body.specs.WellFormed.{WellFormed}
use Rattle.std.specs.Prelude.{Option, None, Some, Result, Ok, Err}
use Rattle.body.specs.declared.NotWellFormed.{NotWellFormed}
use Rattle.body.specs.declared.Place.{Place}
use Rattle.body.specs.declared.Found.{Found}
use Rattle.body.proofs.FindCall.{find_says, find_only}
use Rattle.body.proofs.FindCount.{count_says, count_exactly, count_bound, same_answer}
use Rattle.talcfeather.specs.Numbers.{with_zeros, marked, in_bytes}
use Rattle.talcfeather.specs.Find.{TalcFind, find_numbers, found_of, told_visited}
use Rattle.talcfeather.proofs.InBytes.{number_at}

abbrev Sought : Type 0
Sought = Result (Option Place) NotWellFormed

-- ---- the count, as it stands in the answer
at_24 : (f : Found) → take 8 (drop 24 (in_bytes (find_numbers f))) ≡ bytes_low 8 f.visited
at_24 f = by f.sought
  where
    by : (s : Sought) → take 8 (drop 24 (in_bytes (with_zeros 3 (marked (find_values s)) ++ (f.visited ∷ [])))) ≡ bytes_low 8 f.visited
    by (Ok (Some x)) = number_at (1 ∷ x.number ∷ x.place ∷ f.visited ∷ []) 3 (omega arith)
    by (Ok None) = number_at (0 ∷ 0 ∷ 0 ∷ f.visited ∷ []) 3 (omega arith)
    by (Err e) = number_at (0 ∷ 0 ∷ 0 ∷ f.visited ∷ []) 3 (omega arith)

module _ {body uuid answer : List ℕ} {n : ℕ} (c : TalcFind body uuid n answer) where
  counts : Visited body uuid (found_of body uuid).sought (found_of body uuid).visited
  unfolding found_of
  counts = count_says body uuid _ c.sized (refl, c.bytes)

  few : (found_of body uuid).visited ≤ length body / 16
  unfolding found_of
  few = count_bound body uuid _ c.sized (refl, c.bytes)

  -- it fits its 8 bytes, since the body's length does
  told : told_visited answer ≡ (found_of body uuid).visited
  told =
      let small : (found_of body uuid).visited < 2 ^ 64 = omega (arith, few, c.short) in
      ap number_low (ap (λ (l : List ℕ). take 8 (drop 24 l)) c.is_answer ∙ at_24 (found_of body uuid)) ∙ number_bytes 8 (found_of body uuid).visited ∙ mod-eq_of_lt small

  -- Find returns the record with the UUID (its number from 0 and the place of its first field), "none", or 9.
  -- Q10.a "Find shall report how many fields it visited, ENDs included."
  pub find_said : (f : Found) × Says body uuid f.sought × Visited body uuid f.sought f.visited
      × (n ≡ find_number f.sought) × (answer ≡ in_bytes (find_numbers f)) × (told_visited answer ≡ f.visited)
  unfolding found_of
  find_said = (found_of body uuid, find_says body uuid _ c.sized (refl, c.bytes), counts, c.is_number, c.is_answer, told)

  -- Q7.c "find's answer is the only match, no longer the first": a record that has the UUID is the one that is told, by its number
  pub only_match : (w : WellFormed body) (i : ℕ) → i < length w.records → HasUuid uuid (get_or w.records i [])
      → (p v : ℕ) × (n ≡ 0) × (answer ≡ in_bytes (1 ∷ i ∷ p ∷ v ∷ []))
  unfolding found_of
  only_match w i l h =
      let o = find_only body uuid (found_of body uuid) c.sized (refl, c.bytes) w i l h in
      (o.0, (found_of body uuid).visited, c.is_number ∙ ap find_number o.1, c.is_answer ∙ ap (λ (s : Sought). in_bytes (with_zeros 3 (marked (find_values s)) ++ ((found_of body uuid).visited ∷ []))) o.1)

  -- Q10.a "Let the count be the number of fields from the body's start to the deciding field, it included: the matching UUID, or the last END."
  pub visited_exactly : (w : WellFormed body) (before : List Stored) (f : Stored) (behind : List Stored) → w.fields ≡ before ++ (f ∷ behind)
      → Decides uuid before f behind → told_visited answer ≡ length before + 1
  unfolding found_of
  visited_exactly w before f behind e d = told ∙ count_exactly body uuid _ c.sized (refl, c.bytes) w before f behind e d

  -- Q10.b "It is at most the body length divided by 16, and 0 with refusal 9."
  pub visited_bound : told_visited answer ≤ length body / 16
  visited_bound = omega (arith, told, few)

  pub visited_refused : n ≡ 9 → told_visited answer ≡ 0
  visited_refused h = told ∙ by (found_of body uuid).sought counts (sym c.is_number ∙ h)
    where
      by : (s : Sought) → Visited body uuid s (found_of body uuid).visited → find_number s ≡ 9 → (found_of body uuid).visited ≡ 0
      by (Ok o) v e = absurd (omega arith)
      by (Err x) v e = v

-- "equal for every body with the same fields up to the deciding one": number and answer
pub same_told : {body body' uuid answer answer' : List ℕ} {n n' : ℕ} → TalcFind body uuid n answer → TalcFind body' uuid n' answer'
    → (w : WellFormed body) (w' : WellFormed body') (before : List Stored) (f : Stored) (behind behind' : List Stored)
    → w.fields ≡ before ++ (f ∷ behind) → w'.fields ≡ before ++ (f ∷ behind')
    → Decides uuid before f behind → Decides uuid before f behind' → (n ≡ n') × (answer ≡ answer')
unfolding found_of
same_told {body} {body'} {uuid} c c' w w' before f behind behind' e e' d d' =
    let z = same_answer body body' uuid _ _ c.sized (refl, c.bytes) (refl, c'.bytes) w w' before f behind behind' e e' d d' in (
      c.is_number ∙ ap (λ (x : Found). find_number x.sought) z ∙ sym c'.is_number,
      c.is_answer ∙ ap (λ (x : Found). in_bytes (find_numbers x)) z ∙ sym c'.is_answer,
    )
