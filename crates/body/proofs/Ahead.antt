-- The laws for a loop over the records of a well-formed body: it starts behind the header, a turn reads the first of the records that are ahead and goes on to the next place, and
-- at the body's end none is ahead. So it reads each record once, in order. By what is left at a place (Sectioned), section by section.
use Prim.Native.Nat.{ℕ, ◌+◌, ◌<◌, ◌≤◌}
use mathlib.Core.Path.{◌≡◌, refl, ap, subst, ◌∙◌}
use mathlib.Core.Bool.{true}
use mathlib.Core.List.{List, [], ◌∷◌}
use native.Mathlib.Nat.{zero-add}
use native.Mathlib.Omega.{arith}
use lib.ListN.{length}
use Rattle.words.specs.Each.{Each}
use Rattle.fields.specs.Stored.{Stored}
use Rattle.body.specs.Division.{joined}
use Rattle.body.specs.Sections.{runs, first_data}
use Rattle.body.specs.WellFormed.{GoodRecord}
use Rattle.body.specs.Decision.{fields_of, is_well_formed, header_in, records_in}
use Rattle.body.specs.RecordAt.{firsts_of, record_at, content_at}
use Rattle.body.specs.declared.records.Record.{Record}
use Rattle.body.proofs.Sectioned.{Left, left_start, left_turn, left_some, left_none, good_start, is_formed, spot_content}

-- at place p of s the records rs are ahead
pub record Ahead (s : List ℕ) (p : ℕ) (rs : List (List Stored)) : Type 0 where
  left : Left s p rs
  good : Each GoodRecord rs

-- behind the header all records are ahead
pub ahead_start : (s : List ℕ) (h : Record) → is_well_formed s ≡ true → h ≡ record_at s 0
    → Ahead s h.next (records_in (runs (fields_of s))) × (h.next ≡ length (joined (header_in (runs (fields_of s)))) + 16)
ahead_start s h w e =
    let t = left_turn s 0 _ _ (left_start s (is_formed s w)) in
    let n : h.next ≡ (record_at s 0).next = ap (λ (x : Record). x.next) e in
    (record { left = rw n t.left; good = good_start s (is_formed s w) }, n ∙ t.next ∙ ap (λ (x : ℕ). x + 16) (zero-add (length (joined (header_in (runs (fields_of s)))))))

pub ahead_stop : (s : List ℕ) (p : ℕ) (rs : List (List Stored)) → Ahead s p rs → length s ≤ p → rs ≡ []
ahead_stop s p rs a h = left_none s rs a.left h

-- The record r was read at place p, where the records rs are ahead: u are its fields, and us come after it. What stands at its spots are the data of its first fields.
pub record Met (s : List ℕ) (p : ℕ) (rs : List (List Stored)) (r : Record) : Type 0 where
  pub u : List Stored
  pub us : List (List Stored)
  pub are : rs ≡ u ∷ us
  pub good : GoodRecord u
  pub next : r.next ≡ p + length (joined u) + 16
  pub ahead : Ahead s r.next us
  pub within : r.next ≤ length s
  pub uuid : content_at s r.firsts.uuid ≡ first_data 0x01 u
  pub group : content_at s r.firsts.group ≡ first_data 0x02 u
  pub title : content_at s r.firsts.title ≡ first_data 0x03 u
  pub user : content_at s r.firsts.user ≡ first_data 0x04 u
  pub expiry : content_at s r.firsts.expiry ≡ first_data 0x0a u

module _ (s : List ℕ) (p : ℕ) (u : List Stored) (us : List (List Stored)) (l : Left s p (u ∷ us)) (g : Each GoodRecord (u ∷ us)) where
  met_first : Met s p (u ∷ us) (record_at s p)
  unfolding record_at firsts_of
  met_first =
      let t = left_turn s p u us l in
      let spot : (k : ℕ) → _ = λ k. spot_content s k p ∙ ap (first_data k) t.here in
      record {
        u = u;
        us = us;
        are = refl;
        good = g.0;
        next = t.next;
        ahead = record { left = t.left; good = g.1 };
        within = omega (arith, t.left.reach);
        uuid = spot 0x01;
        group = spot 0x02;
        title = spot 0x03;
        user = spot 0x04;
        expiry = spot 0x0a;
      }

pub ahead_turn : (s : List ℕ) (p : ℕ) (rs : List (List Stored)) (r : Record) → Ahead s p rs → p < length s → r ≡ record_at s p → Met s p rs r
ahead_turn s p rs r a h e =
    let x = left_some s rs a.left h in
    rw (e, x.2) (met_first s p x.0 x.1 (subst (Left s p) x.2 a.left) (subst (Each GoodRecord) x.2 a.good))
