-- The UUIDs from a place on, field by field: a field that is no UUID is passed over, one that is comes first, and where no field fits none follows. The bound on the fields never bites.
use Prim.Native.Nat.{ℕ, zero, suc, ◌+◌, ◌-◌, ◌*◌, ◌/◌, ◌≤◌, ◌<◌}
use mathlib.Core.Path.{◌≡◌, refl, sym, ap, ap₂, ◌∙◌}
use mathlib.Core.Bool.{Bool, true, false, cond, ◌&&◌}
use mathlib.Core.List.{List, [], ◌∷◌, ◌++◌}
use native.Mathlib.Omega.{arith}
use lib.Dec.{eqb, leb}
use lib.ListN.{length, take, drop}
use borrow.Author.Tests.{le-leb, lt-leb, eqb-true, eq-eqb, ne_eqb}
use Rattle.words.proofs.EachLaws.{both}
use Rattle.fields.specs.Stored.{room_of}
use Rattle.fields.specs.Step.{len_at, kind_at, data_at}
use Rattle.uuids.specs.Uuids.{is_uuid_at, uuid_at, uuids_among, uuids_from}
use Rattle.uuids.specs.Table.{id_at}
use Rattle.uuids.specs.Batches.{NextAt}

-- the place after the field at p
abbrev after : List ℕ → ℕ → ℕ
after s p = p + room_of (len_at s p)

-- any bound that reaches to the end gives the same
enough : (m n : ℕ) (s : List ℕ) (p : ℕ) → length s ≤ p + m → length s ≤ p + n → uuids_among m s p ≡ uuids_among n s p
unfolding uuids_among
enough zero zero s p g h = refl
enough zero (suc n) s p g h = rw (lt-leb (after s p) (length s) (omega arith))
enough (suc m) zero s p g h = rw (lt-leb (after s p) (length s) (omega arith))
enough (suc m) (suc n) s p g h =
    ap (λ (l : List (List ℕ)). cond (leb (after s p) (length s)) (uuid_at s p ++ l) []) (enough m n s (after s p) (omega arith) (omega arith))

pub few : (s : List ℕ) (p : ℕ) → length (uuids_from s p) ≤ length s
unfolding uuids_from uuids_among
few s p = by (length s) p
  where
    by : (n p : ℕ) → length (uuids_among n s p) ≤ n
    by zero p = omega arith
    by (suc n) p = cases (leb (after s p) (length s)) (is_uuid_at s p) (by n (after s p))
      where
        cases : (b c : Bool) → length (uuids_among n s (after s p)) ≤ n
            → length (cond b (cond c (data_at s p ∷ []) [] ++ uuids_among n s (after s p)) []) ≤ suc n
        cases true true h = omega arith
        cases true false h = omega arith
        cases false c h = omega arith

module _ (s : List ℕ) (p : ℕ) where
  sixteen : is_uuid_at s p ≡ true → len_at s p ≡ 16
  sixteen u = eqb-true (len_at s p) 16 (both (eqb (kind_at s p) 0x01) _ u).1

  -- one field off
  one : (n : ℕ) → length s ≡ suc n → uuids_from s p ≡ cond (leb (after s p) (length s)) (uuid_at s p ++ uuids_from s (after s p)) []
  unfolding uuids_from uuids_among
  one n e =
      ap (λ (k : ℕ). uuids_among k s p) e
      ∙ ap (λ (l : List (List ℕ)). cond (leb (after s p) (length s)) (uuid_at s p ++ l) []) (enough n (length s) s (after s p) (omega arith) (omega arith))

  pub none_fits : length s < after s p → uuids_from s p ≡ []
  unfolding uuids_from uuids_among
  none_fits h = by (length s) refl
    where
      by : (n : ℕ) → n ≡ length s → uuids_among n s p ≡ []
      by zero e = refl
      by (suc n) e = rw (lt-leb (after s p) (length s) h)

  module _ (h : after s p ≤ length s) where
    pub fits : uuids_from s p ≡ uuid_at s p ++ uuids_from s (after s p)
    fits =
        let e : length s ≡ suc (length s - 1) = omega arith in
        one (length s - 1) e ∙ ap (λ (b : Bool). cond b (uuid_at s p ++ uuids_from s (after s p)) []) (le-leb (after s p) (length s) h)

    passed_over : is_uuid_at s p ≡ false → uuids_from s p ≡ uuids_from s (after s p)
    passed_over n = fits ∙ ap (λ (b : Bool). cond b (data_at s p ∷ []) [] ++ uuids_from s (after s p)) n

    comes_first : is_uuid_at s p ≡ true → uuids_from s p ≡ id_at s (p + 5) ∷ uuids_from s (p + 5 + 27)
    comes_first u =
        let l = sixteen u in
        let r : after s p ≡ p + 5 + 27 = ap (λ (n : ℕ). p + room_of n) l ∙ omega arith in
        fits
        ∙ ap (λ (b : Bool). cond b (data_at s p ∷ []) [] ++ uuids_from s (after s p)) u
        ∙ ap₂ ◌∷◌ (ap (λ (n : ℕ). take n (drop (p + 5) s)) l) (ap (uuids_from s) r)

-- the search has come to `at`, some blocks on, and has passed no UUID
pub record Seeks (s : List ℕ) (from at : ℕ) : Type 0 where
  pub same : uuids_from s from ≡ uuids_from s at
  pub blocks : ℕ
  pub on : at ≡ from + 16 * blocks

module _ (s : List ℕ) (from at : ℕ) (x : Seeks s from at) where
  pub seeks_over : length s < at + room_of (len_at s at) → uuids_from s from ≡ []
  seeks_over h = x.same ∙ none_fits s at h

  module _ (h : at + room_of (len_at s at) ≤ length s) where
    pub seeks_hit : is_uuid_at s at ≡ true → NextAt s from (at + 5)
    seeks_hit u =
        let r : room_of (len_at s at) ≡ 32 = ap room_of (sixteen s at u) in
        record { next = x.same ∙ comes_first s at h u; blocks = x.blocks; on = omega (arith, x.on); within = omega arith }

    pub seeks_next : is_uuid_at s at ≡ false → Seeks s from (at + room_of (len_at s at))
    seeks_next n = record {
      same = x.same ∙ passed_over s at h n;
      blocks = x.blocks + (5 + len_at s at + 15) / 16;
      on = omega (arith, x.on);
    }

-- the test, by what is read at a place
module _ (s : List ℕ) (p n : ℕ) (e : n ≡ len_at s p) where
  pub is_one : kind_at s p ≡ 0x01 → n ≡ 16 → is_uuid_at s p ≡ true
  is_one k l = rw (eq-eqb (kind_at s p) 0x01 k, eq-eqb (len_at s p) 16 (sym e ∙ l))

  pub other_length : (n ≡ 16 → ⊥) → is_uuid_at s p ≡ false
  other_length l = by (eqb (kind_at s p) 0x01)
    where
      by : (b : Bool) → (b && eqb (len_at s p) 16) ≡ false
      by true = ne_eqb (len_at s p) 16 (λ z. l (e ∙ z))
      by false = refl

pub other_kind : (s : List ℕ) (p : ℕ) → (kind_at s p ≡ 0x01 → ⊥) → is_uuid_at s p ≡ false
other_kind s p k = rw (ne_eqb (kind_at s p) 0x01 k)
