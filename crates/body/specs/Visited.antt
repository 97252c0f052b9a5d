-- What find's count says (document 02, Q-10): "the number of fields from the body's start to the deciding field, it included: the matching UUID, or the last END", and 0 with refusal 9.
use Rattle.std.specs.Prelude.{ℕ, ◌+◌, ◌≤◌, ◌≡◌, ◌⊎◌, Option, Some, None, Result, Ok, Err, List, [], ◌∷◌, ◌++◌, length}
use Rattle.fields.specs.Stored.{Stored}
use Rattle.body.specs.Sections.{count}
use Rattle.body.specs.WellFormed.{WellFormed}
use Rattle.body.specs.declared.NotWellFormed.{NotWellFormed}
use Rattle.body.specs.declared.Place.{Place}

-- the field f, with the fields `before` before it, is the UUID of a record: an END, at least the header's, is before it
pub record Matches (uuid : List ℕ) (before : List Stored) (f : Stored) : Type 0 where
  pub in_record : 1 ≤ count 0xff before
  pub kind : f.kind ≡ 0x01
  pub bytes : f.content ≡ uuid

-- an END, with the fields `behind` behind it, is the last
abbrev pub LastEnd : Stored → List Stored → Type 0
LastEnd f behind = (f.kind ≡ 0xff) × (behind ≡ [])

-- none of these fields is the UUID of a record
abbrev pub NoMatch : List ℕ → List Stored → Type 0
NoMatch uuid fields = (before : List Stored) (f : Stored) (behind : List Stored) → fields ≡ before ++ (f ∷ behind) → Matches uuid before f → ⊥

-- f decides, with `before` before it and `behind` behind it: the first match, or the last END where there is none
pub record Decides (uuid : List ℕ) (before : List Stored) (f : Stored) (behind : List Stored) : Type 0 where
  pub not_before : NoMatch uuid before
  pub is : Matches uuid before f ⊎ LastEnd f behind

-- v fields of the body are visited, up to the deciding one, it included, which is as Is says; none before it is the UUID of a record
pub record UpTo (body uuid : List ℕ) (v : ℕ) (Is : List Stored → Stored → List Stored → Type 0) : Type 0 where
  pub well_formed : WellFormed body
  pub before : List Stored
  pub deciding : Stored
  pub behind : List Stored
  pub fields : well_formed.fields ≡ before ++ (deciding ∷ behind)
  pub not_before : NoMatch uuid before
  pub is : Is before deciding behind
  pub visited : v ≡ length before + 1

-- beside each answer: the UUID of record n, before which the header and n records end; the last END; 0
abbrev pub Visited : List ℕ → List ℕ → Result (Option Place) NotWellFormed → ℕ → Type 0
Visited body uuid (Ok (Some x)) v = UpTo body uuid v (λ before f behind. Matches uuid before f × (count 0xff before ≡ x.number + 1))
Visited body uuid (Ok None) v = UpTo body uuid v (λ before f behind. LastEnd f behind)
Visited body uuid (Err e) v = v ≡ 0
