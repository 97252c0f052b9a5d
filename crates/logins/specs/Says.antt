-- What an answer of an export says, over the records of a well-formed body (document 02, Q-6).
use Rattle.std.specs.Prelude.{ℕ, ◌*◌, ◌<◌, ◌≤◌, ◌≡◌, true, List, [], ◌∷◌, ◌++◌, map, length, drop, None, Some, Result, Ok, Err}
use Rattle.words.specs.Each.{Each}
use Rattle.fields.specs.Stored.{Stored}
use Rattle.fields.specs.Value.{value_of}
use Rattle.fields.specs.declared.value.Value.TheVariants as Value
use Rattle.body.specs.Sections.{first_data}
use Rattle.body.specs.WellFormed.{WellFormed}
use Rattle.rows.specs.Login.{table_of}
use Rattle.rows.specs.Days.{Rounded}
use Rattle.logins.specs.Record.{login_of, fault_of}
use Rattle.logins.specs.declared.ExportRefusal.{ExportRefusal}
use Rattle.logins.specs.declared.ExportRefusal.TheVariants.{NotWellFormed, Faulty, NoRoom}

-- nothing in the records is refused
abbrev pub NoFault : List (List Stored) → Type 0
NoFault us = Each (λ u. fault_of u ≡ None) us

-- record n is the first of which something is refused, and k is the type of the field
pub record FaultyRecord (records : List (List Stored)) (n k : ℕ) : Type 0 where
  pub before : List (List Stored)
  pub faulty : List Stored
  pub others : List (List Stored)
  pub are : records ≡ before ++ (faulty ∷ others)
  pub number : n ≡ length before
  pub none_before : NoFault before
  pub field : fault_of faulty ≡ Some k
  pub some : k ≡ 0 → ⊥

-- "Days are expiry minus the given now, .. rounded towards minus infinity; no expiry, or expiry 0, gives 2,147,483,647.": of the record u
pub record DaysAre (t : ℕ) (u : List Stored) : Type 0 where
  pub none : value_of true 0x0a (first_data 0x0a u) ≡ Value.Empty → (login_of t u).days ≡ 2147483647
  pub zero : value_of true 0x0a (first_data 0x0a u) ≡ Value.Time 0 → (login_of t u).days ≡ 2147483647
  pub some : (e : ℕ) → (e ≡ 0 → ⊥) → value_of true 0x0a (first_data 0x0a u) ≡ Value.Time e → Rounded e t (login_of t u).days

-- n rows, one for each record, and what is beyond them unchanged
pub record Written (body : List ℕ) (t : ℕ) (before : List ℕ) (n : ℕ) (after : List ℕ) : Type 0 where
  pub well_formed : WellFormed body
  pub no_fault : NoFault well_formed.records
  pub days : Each (λ u. DaysAre t u) well_formed.records
  pub number : n ≡ length well_formed.records
  pub room : 256 * n ≤ length before
  pub table : after ≡ table_of (map (login_of t) well_formed.records) ++ drop (256 * n) before

-- what each answer says; the output holds `before` at first, and `after` when the call is over
abbrev pub ExportSays : List ℕ → ℕ → List ℕ → Result ℕ ExportRefusal → List ℕ → Type 0
ExportSays body t before (Ok n) after = Written body t before n after
ExportSays body t before (Err NotWellFormed) after = (WellFormed body → ⊥) × (after ≡ before)
ExportSays body t before (Err (Faulty f)) after = (w : WellFormed body) × FaultyRecord w.records f.number f.kind × (after ≡ before)
ExportSays body t before (Err NoRoom) after =
    (w : WellFormed body) × NoFault w.records × (length before < 256 * length w.records) × (after ≡ before)

-- the records agree in their UUID and in the first group, title, user name and expiry
pub record Agree (u v : List Stored) : Type 0 where
  pub uuid : first_data 0x01 u ≡ first_data 0x01 v
  pub group : first_data 0x02 u ≡ first_data 0x02 v
  pub title : first_data 0x03 u ≡ first_data 0x03 v
  pub user : first_data 0x04 u ≡ first_data 0x04 v
  pub expiry : first_data 0x0a u ≡ first_data 0x0a v

-- as many records, which agree one by one
unfoldable pub AgreeAll : List (List Stored) → List (List Stored) → Type 0
AgreeAll [] [] = Unit {0}
AgreeAll [] (v ∷ vs) = ⊥
AgreeAll (u ∷ us) [] = ⊥
AgreeAll (u ∷ us) (v ∷ vs) = Agree u v × AgreeAll us vs
