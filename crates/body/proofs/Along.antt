-- The walk and the fields of a body go together, step by step: what the walk takes is the next of the fields, and where it takes none they end or do not reach the end.
-- These are the laws for a loop over the walk: what it takes, where it takes none, and the end.
use Prim.Native.Nat.{ℕ, ◌+◌, ◌%◌, ◌<◌, ◌≤◌}
use mathlib.Core.Path.{◌≡◌, refl, sym, ap, ◌∙◌}
use mathlib.Core.Bool.{Bool, true, false, cond, not, false≢true}
use mathlib.Core.Logic.{◌⊎◌, inl, inr, ⊎_elim}
use mathlib.Core.List.{List, [], ◌∷◌}
use native.Mathlib.Nat.{add-zero}
use native.Mathlib.Omega.{arith}
use lib.Dec.{leb, eqb}
use lib.ListN.{length, length-append}
use borrow.Author.Tests.{le-leb, leb-true, eq-eqb, eqb-true, ne_eqb}
use Rattle.std.proofs.Common.{Some, None, Ok, Err}
use Rattle.words.proofs.EachLaws.{both}
use Rattle.fields.specs.Stored.{Stored, bytes_of, room_of}
use Rattle.fields.specs.Step.{len_at, kind_at, end_with_data, step_of}
use Rattle.fields.specs.declared.Cursor.{Cursor}
use Rattle.fields.specs.declared.Taken.{Taken}
use Rattle.fields.specs.declared.WalkRefusal.{WalkRefusal}
use Rattle.fields.proofs.Outcomes.{taken, took, next_place, forward}
use Rattle.body.specs.Division.{joined}
use Rattle.body.specs.Decision.{stored_at, fits, fields_from, walkable, taken_from, exact_from, ends_empty}
use Rattle.body.proofs.Division.{from_fits, from_none, stored_long, data_long}

-- the walk takes a field
module _ (s : List ℕ) (c : Cursor) (t : Taken) (e : step_of s c ≡ Ok (Some t)) where
  pub taken_fits : fits s c.place ≡ true
  taken_fits = le-leb (c.place + room_of (len_at s c.place)) (length s) (taken s c t e).inside

  -- it is the next of the fields
  pub from_took : fields_from s c.place ≡ stored_at s c.place ∷ fields_from s t.next.place
  from_took = from_fits s c.place taken_fits ∙ ap (λ (p : ℕ). stored_at s c.place ∷ fields_from s p) (sym (next_place s c t e))

  pub taken_kind : t.kind ≡ (stored_at s c.place).kind
  taken_kind = (taken s c t e).kind

  pub taken_length : t.len ≡ length (stored_at s c.place).content
  taken_length = (taken s c t e).len ∙ sym (data_long s c.place taken_fits)

  pub taken_no_data : end_with_data (stored_at s c.place).kind (length (stored_at s c.place).content) ≡ false
  taken_no_data = rw (data_long s c.place taken_fits) (taken s c t e).no_data

  pub exact_took : exact_from s c.place ≡ exact_from s t.next.place
  exact_took =
      ap (λ (l : List Stored). eqb (c.place + length (joined l)) (length s)) from_took
      ∙ ap (λ (n : ℕ). eqb n (length s)) (rw (length-append (bytes_of (stored_at s c.place)) (joined (fields_from s t.next.place)), stored_long s c.place taken_fits, next_place s c t e) (omega arith))

pub from_end : (s : List ℕ) (c : Cursor) → length s ≤ c.place → fields_from s c.place ≡ []
from_end s c h = from_none s c.place (no (leb (c.place + room_of (len_at s c.place)) (length s)) refl)
  where
    no : (b : Bool) → fits s c.place ≡ b → fits s c.place ≡ false
    no true e = absurd (omega (arith, leb-true (c.place + room_of (len_at s c.place)) (length s) e))
    no false e = e

-- the walk takes none there
abbrev pub TakesNone : List ℕ → Cursor → Type 0
TakesNone s c = (t : Taken) → step_of s c ≡ Ok (Some t) → ⊥

pub none_at_end : (s : List ℕ) (c : Cursor) → step_of s c ≡ Ok None → TakesNone s c
none_at_end s c e t h = let z = sym e ∙ h in cc

pub none_refused : (s : List ℕ) (c : Cursor) (y : WalkRefusal) → step_of s c ≡ Err y → TakesNone s c
none_refused s c y e t h = let z = sym e ∙ h in cc

-- the walk takes no field: the field's blocks are not within the body, or it is an END with data
module _ (s : List ℕ) (c : Cursor) (al : c.place % 16 ≡ 0) (o : TakesNone s c) where
  pub untaken : (fits s c.place ≡ false)
      ⊎ ((fields_from s c.place ≡ stored_at s c.place ∷ fields_from s (c.place + room_of (len_at s c.place)))
      × (end_with_data (stored_at s c.place).kind (length (stored_at s c.place).content) ≡ true))
  untaken = by (fits s c.place) refl (end_with_data (kind_at s c.place) (len_at s c.place)) refl
    where
      by : (b : Bool) → fits s c.place ≡ b → (k : Bool) → end_with_data (kind_at s c.place) (len_at s c.place) ≡ k
          → (fits s c.place ≡ false)
          ⊎ ((fields_from s c.place ≡ stored_at s c.place ∷ fields_from s (c.place + room_of (len_at s c.place)))
          × (end_with_data (stored_at s c.place).kind (length (stored_at s c.place).content) ≡ true))
      by false e k g = inl e
      by true e true g = inr (from_fits s c.place e, rw (data_long s c.place e) g)
      by true e false g =
          let r = leb-true (c.place + room_of (len_at s c.place)) (length s) e in
          absurd (o _ (took s c al (omega arith) (λ z. omega arith) (omega arith) (omega arith) g))

-- before the end, a field that is not within the body
pub cut_off : (s : List ℕ) (p : ℕ) → fits s p ≡ false → p < length s → exact_from s p ≡ false
cut_off s p e l = rw (from_none s p e, add-zero p) (ne_eqb p (length s) (λ z. omega arith))

-- ---- the fields that the walk takes, of any bytes
aligned_from : (s : List ℕ) (p : ℕ) → p % 16 ≡ 0 → taken_from s p ≡ walkable (fields_from s p)
aligned_from s p h = ap (λ (b : Bool). cond b (walkable (fields_from s p)) []) (eq-eqb (p % 16) 0 h)

walkable_no : (f : Stored) (fs : List Stored) → end_with_data f.kind (length f.content) ≡ false → walkable (f ∷ fs) ≡ f ∷ walkable fs
unfolding walkable
walkable_no f fs h = rw h

walkable_yes : (f : Stored) (fs : List Stored) → end_with_data f.kind (length f.content) ≡ true → walkable (f ∷ fs) ≡ []
unfolding walkable
walkable_yes f fs h = rw h

walkable_none : walkable [] ≡ []
unfolding walkable
walkable_none = refl

-- all, where every END is empty
pub walkable_all : (fs : List Stored) → ends_empty fs ≡ true → walkable fs ≡ fs
walkable_all [] h = walkable_none
walkable_all (f ∷ fs) h =
    let x = both (not (end_with_data f.kind (length f.content))) (ends_empty fs) h in
    walkable_no f fs (by (end_with_data f.kind (length f.content)) x.0) ∙ ap (◌∷◌ f) (walkable_all fs x.1)
  where
    by : (b : Bool) → not b ≡ true → b ≡ false
    by true h = absurd (false≢true h)
    by false h = refl

pub taken_took : (s : List ℕ) (c : Cursor) (t : Taken) → step_of s c ≡ Ok (Some t) → taken_from s c.place ≡ stored_at s c.place ∷ taken_from s t.next.place
taken_took s c t e =
    aligned_from s c.place (taken s c t e).aligned
    ∙ ap walkable (from_took s c t e)
    ∙ walkable_no _ _ (taken_no_data s c t e)
    ∙ ap (◌∷◌ (stored_at s c.place)) (sym (aligned_from s t.next.place (forward s c t e).2))

pub taken_else : (s : List ℕ) (c : Cursor) → TakesNone s c → taken_from s c.place ≡ []
taken_else s c o = by (eqb (c.place % 16) 0) refl
  where
    by : (b : Bool) → eqb (c.place % 16) 0 ≡ b → cond b (walkable (fields_from s c.place)) [] ≡ []
    by true h =
        ⊎_elim (λ e. ap walkable (from_none s c.place e) ∙ walkable_none) (λ e. ap walkable e.0 ∙ walkable_yes _ _ e.1)
        (untaken s c (eqb-true _ _ h) o)
    by false h = refl

pub taken_stop : (s : List ℕ) (c : Cursor) → length s ≤ c.place → taken_from s c.place ≡ []
taken_stop s c h = by (eqb (c.place % 16) 0)
  where
    by : (b : Bool) → cond b (walkable (fields_from s c.place)) [] ≡ []
    by true = ap walkable (from_end s c h) ∙ walkable_none
    by false = refl

-- A loop that folds any step along them keeps this: with the fields that are left, go comes to y. It starts at y = go of all.
module _ {A : Type 0} (go : List Stored → A) (y : A) (s : List ℕ) (c : Cursor) (k : go (taken_from s c.place) ≡ y) where
  pub fold_took : (t : Taken) → step_of s c ≡ Ok (Some t) → go (stored_at s c.place ∷ taken_from s t.next.place) ≡ y
  fold_took t e = ap go (sym (taken_took s c t e)) ∙ k

  pub fold_else : TakesNone s c → go [] ≡ y
  fold_else o = ap go (sym (taken_else s c o)) ∙ k

  pub fold_stop : length s ≤ c.place → go [] ≡ y
  fold_stop h = ap go (sym (taken_stop s c h)) ∙ k
