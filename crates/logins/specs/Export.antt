-- The export of a body: its answer and what it leaves in the output, for any bytes (document 02, Q-6).
use Rattle.std.specs.Prelude.{ℕ, ◌+◌, ◌*◌, ◌^◌, ◌<◌, ◌≡◌, cond, Option, Some, None, Result, Ok, Err, List, [], ◌∷◌, ◌++◌, map, ltb, length, drop}
use Rattle.words.specs.Numbers.{Bytes}
use Rattle.fields.specs.Stored.{Stored}
use Rattle.body.specs.Sections.{runs}
use Rattle.body.specs.Decision.{fields_of, records_in, is_well_formed}
use Rattle.body.specs.RecordAt.{content_at}
use Rattle.body.specs.declared.records.Firsts.{Firsts}
use Rattle.rows.specs.Login.{Login, table_of}
use Rattle.logins.specs.Record.{login_from, fault_from, login_of, fault_of}
use Rattle.logins.specs.declared.Fault.{Fault}
use Rattle.logins.specs.declared.ExportRefusal.{ExportRefusal}
use Rattle.logins.specs.declared.ExportRefusal.TheVariants.{NotWellFormed, Faulty, NoRoom}

-- the records of a body
abbrev pub body_records : List ℕ → List (List Stored)
body_records s = records_in (runs (fields_of s))

-- a record at fault, by its number n, or else what the others come to
abbrev pub or_others : Option ℕ → ℕ → Result Unit Fault → Result Unit Fault
or_others (Some k) n r = Err (record { number = n; kind = k })
or_others None n r = r

-- "first record first": the first at fault of records of which the first is number n
unfoldable pub checked_from : ℕ → List (List Stored) → Result Unit Fault
checked_from n [] = Ok tt
checked_from n (u ∷ us) = or_others (fault_of u) n (checked_from (n + 1) us)

-- a row for each record
unfoldable pub table_from : ℕ → List (List Stored) → List ℕ
table_from t us = table_of (map (login_of t) us)

-- "then a short output gives 3": for an output of m bytes and n rows
abbrev pub room_for : ℕ → ℕ → Result ℕ ExportRefusal
room_for m n = cond (ltb m (256 * n)) (Err NoRoom) (Ok n)

-- a record at fault, or else what the output comes to
abbrev pub or_room : Result Unit Fault → Result ℕ ExportRefusal → Result ℕ ExportRefusal
or_room (Err f) r = Err (Faulty f)
or_room (Ok u) r = r

unfoldable pub export_of : List ℕ → ℕ → Result ℕ ExportRefusal
export_of s m = cond (is_well_formed s) (or_room (checked_from 0 (body_records s)) (room_for m (length (body_records s)))) (Err NotWellFormed)

-- "Output is unchanged in all of these."; beyond the table it is unchanged too
abbrev pub output_after : Result ℕ ExportRefusal → ℕ → List ℕ → List ℕ → List ℕ
output_after (Ok n) t s before = table_from t (body_records s) ++ drop (256 * n) before
output_after (Err e) t s before = before

-- what a call ensures, of a body and the given now, t (`time` in the code, where `now` is a word of contracts); the output holds `before` at first, and `after` when the call is over
pub record Exports (body : List ℕ) (t : ℕ) (before : List ℕ) (answer : Result ℕ ExportRefusal) (after : List ℕ) : Type 0 where
  pub bytes : Bytes body
  pub small : t < 2 ^ 32
  pub is_answer : answer ≡ export_of body (length before)
  pub is_after : after ≡ output_after answer t body before

-- ---- the same of what stands at the spots of a record
unfoldable pub login_at : ℕ → List ℕ → Firsts → Login
login_at t s x = login_from t (content_at s x.uuid) (content_at s x.title) (content_at s x.user) (content_at s x.group) (content_at s x.expiry)

unfoldable pub fault_at : List ℕ → Firsts → Option ℕ
fault_at s x = fault_from (content_at s x.title) (content_at s x.user) (content_at s x.group) (content_at s x.expiry)
