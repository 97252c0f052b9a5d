-- Where the loop along one record stands: what it has found, with what the fields that are left bring, is what the record gives.
use Rattle.std.proofs.Common.{Option, Some, None, Ok}
use Prim.Native.Nat.{ℕ, ◌+◌, ◌≤◌}
use mathlib.Core.Path.{◌≡◌, refl, sym, ap, ◌∙◌}
use mathlib.Core.Bool.{Bool, true, false, cond}
use mathlib.Core.List.{List, [], ◌∷◌}
use native.Mathlib.Nat.{add-zero, zero-add}
use native.Mathlib.Omega.{arith}
use lib.Dec.{eqb}
use lib.ListN.{length}
use borrow.Author.Tests.{eq-eqb}
use Rattle.fields.specs.Stored.{Stored, room_of}
use Rattle.fields.specs.Step.{step_of}
use Rattle.fields.specs.declared.Cursor.{Cursor}
use Rattle.fields.specs.declared.Taken.{Taken}
use Rattle.fields.proofs.Outcomes.{forward, next_place}
use Rattle.body.specs.Sections.{is_end}
use Rattle.body.specs.Decision.{stored_at, taken_from}
use Rattle.body.specs.RecordAt.{before_end, behind_end, spot, spot_of, firsts_of, record_at}
use Rattle.body.specs.Tally.{or_if, firsts_with}
use Rattle.body.specs.declared.records.Spot.{Spot}
use Rattle.body.specs.declared.records.Firsts.{Firsts}
use Rattle.body.specs.declared.records.Record.{Record}
use Rattle.body.proofs.Division.{data_long}
use Rattle.body.proofs.Along.{taken_kind, taken_length, taken_fits, TakesNone, fold_took, fold_else}

-- what was found, or else y
abbrev or_else : Option Spot → Option Spot → Option Spot
or_else (Some x) y = Some x
or_else None y = y

-- what was found, or else the first among the fields v from place q on
abbrev together : Firsts → ℕ → List Stored → Firsts
together x q v =
    record {
      uuid = or_else x.uuid (spot_of 0x01 q v);
      group = or_else x.group (spot_of 0x02 q v);
      title = or_else x.title (spot_of 0x03 q v);
      user = or_else x.user (spot_of 0x04 q v);
      expiry = or_else x.expiry (spot_of 0x0a q v);
    }

no_more : (x : Option Spot) → or_else x None ≡ x
no_more (Some x) = refl
no_more None = refl

one_more : (x : Option Spot) (k q : ℕ) (g : Stored) (w : List Stored)
    → or_else (or_if x k g.kind (spot (q + 5) (length g.content))) (spot_of k (q + room_of (length g.content)) w) ≡ or_else x (spot_of k q (g ∷ w))
unfolding spot_of
one_more (Some x) k q g w = refl
one_more None k q g w = by (eqb g.kind k)
  where
    by : (b : Bool)
        → or_else (cond b (Some (spot (q + 5) (length g.content))) None) (spot_of k (q + room_of (length g.content)) w)
        ≡ cond b (Some (spot (q + 5) (length g.content))) (spot_of k (q + room_of (length g.content)) w)
    by true = refl
    by false = refl

together_end : (x : Firsts) (q : ℕ) → together x q [] ≡ x
unfolding spot_of
together_end x q = rw (no_more x.uuid, no_more x.group, no_more x.title, no_more x.user, no_more x.expiry)

together_note : (x : Firsts) (q : ℕ) (g : Stored) (w : List Stored)
    → together (firsts_with x g.kind (spot (q + 5) (length g.content))) (q + room_of (length g.content)) w ≡ together x q (g ∷ w)
together_note x q g w = rw (one_more x.uuid 0x01 q g w, one_more x.group 0x02 q g w, one_more x.title 0x03 q g w, one_more x.user 0x04 q g w, one_more x.expiry 0x0a q g w)

-- a record of which n fields with the first ones x are behind, and the fields fs from place q on are left
abbrev whole : ℕ → ℕ → Firsts → List Stored → Record
whole q n x fs = record { next = behind_end q fs; fields = n + length (before_end fs); firsts = together x q (before_end fs) }

whole_none : (q n : ℕ) (x : Firsts) → whole q n x [] ≡ record { next = q; fields = n; firsts = x }
unfolding before_end behind_end
whole_none q n x = rw (add-zero n, together_end x q)

module _ (q n : ℕ) (x : Firsts) (g : Stored) (fs : List Stored) where
  whole_end : is_end g ≡ true → whole q n x (g ∷ fs) ≡ record { next = q + room_of (length g.content); fields = n; firsts = x }
  unfolding before_end behind_end
  whole_end k = rw (k, add-zero n, together_end x q)

  whole_field : is_end g ≡ false → whole q n x (g ∷ fs) ≡ whole (q + room_of (length g.content)) (n + 1) (firsts_with x g.kind (spot (q + 5) (length g.content))) fs
  unfolding before_end behind_end
  whole_field k =
      let z : n + length (g ∷ before_end fs) ≡ n + 1 + length (before_end fs) = omega arith in
      rw (k, z, ← together_note x q g (before_end fs))

-- The cursor c, the number n of the fields so far and the first ones x of the record at place p.
pub record Keeps (s : List ℕ) (p : ℕ) (c : Cursor) (x : Firsts) (n : ℕ) : Type 0 where
  pub few : n ≤ c.place
  rest : whole c.place n x (taken_from s c.place) ≡ record_at s p

pub keeps_start : (s : List ℕ) (p : ℕ) (x : Firsts) → (x.uuid ≡ None) × ((x.group ≡ None) × ((x.title ≡ None) × ((x.user ≡ None) × (x.expiry ≡ None))))
    → Keeps s p (record { place = p; in_record = true }) x 0
unfolding record_at firsts_of
keeps_start s p x h =
    record { few = omega arith; rest = rw (zero-add (length (before_end (taken_from s p))), h.0, h.1.0, h.1.1.0, h.1.1.1.0, h.1.1.1.1) }

module _ (s : List ℕ) (p : ℕ) (c : Cursor) (x : Firsts) (n : ℕ) (k : Keeps s p c x n) where
  pub keeps_else : TakesNone s c → record { next = c.place; fields = n; firsts = x } ≡ record_at s p
  keeps_else o = sym (whole_none c.place n x) ∙ fold_else (whole c.place n x) _ s c k.rest o

  module _ (t : Taken) (e : step_of s c ≡ Ok (Some t)) where
    next : whole c.place n x (stored_at s c.place ∷ taken_from s t.next.place) ≡ record_at s p
    next = fold_took (whole c.place n x) _ s c k.rest t e

    far : c.place + room_of (length (stored_at s c.place).content) ≡ t.next.place
    far = ap (λ (m : ℕ). c.place + room_of m) (data_long s c.place (taken_fits s c t e)) ∙ sym (next_place s c t e)

    kind_is : (b : Bool) → eqb t.kind 0xff ≡ b → is_end (stored_at s c.place) ≡ b
    kind_is b h = ap (λ (i : ℕ). eqb i 0xff) (sym (taken_kind s c t e)) ∙ h

    pub keeps_end : t.kind ≡ 0xff → record { next = t.next.place; fields = n; firsts = x } ≡ record_at s p
    keeps_end h =
        ap (λ (q : ℕ). record { next = q; fields = n; firsts = x }) (sym far)
        ∙ sym (whole_end c.place n x (stored_at s c.place) (taken_from s t.next.place) (kind_is true (eq-eqb t.kind 0xff h))) ∙ next

    pub keeps_took : eqb t.kind 0xff ≡ false → (x' : Firsts) → x' ≡ firsts_with x t.kind (spot (c.place + 5) t.len) → Keeps s p t.next x' (n + 1)
    keeps_took f x' h =
        let g = stored_at s c.place in
        let y : x' ≡ firsts_with x g.kind (spot (c.place + 5) (length g.content)) = h ∙ rw (taken_kind s c t e, taken_length s c t e) in
        record {
          few = omega (arith, k.few, (forward s c t e).0);
          rest = ap (λ (z : Firsts). whole t.next.place (n + 1) z (taken_from s t.next.place)) y
              ∙ ap (λ (q : ℕ). whole q (n + 1) (firsts_with x g.kind (spot (c.place + 5) (length g.content))) (taken_from s t.next.place)) (sym far)
              ∙ sym (whole_field c.place n x g (taken_from s t.next.place) (kind_is false f)) ∙ next;
        }
