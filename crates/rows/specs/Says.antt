-- What an answer of an import, and one of a look at a row, say over the logins of a table (document 02, Q-6).
use Rattle.std.specs.Prelude.{ℕ, ◌+◌, ◌*◌, ◌<◌, ◌≤◌, ◌≡◌, true, false, List, length, take, drop, Option, Some, None, Result, Ok, Err}
use Rattle.words.specs.Each.{Each}
use Rattle.rows.specs.Login.{Login, row_of, table_of}
use Rattle.rows.specs.Fit.{Fits}
use Rattle.rows.specs.Import.{row_at, fine_row, values_of}
use Rattle.rows.specs.declared.RowRefusal.{RowRefusal}
use Rattle.rows.specs.declared.Values.{Values}

-- the table has a row for each of these logins, in order, and each fits its row
pub record Holds (table : List ℕ) (ls : List Login) : Type 0 where
  pub is_table : table ≡ table_of ls
  pub fits : Each Fits ls

-- "refuses as 18, at the first such record, a cut record, a text that export would refuse or that has anything but zeros after it, and a non-zero pad": row n is the first
pub record FaultyRow (table : List ℕ) (n : ℕ) : Type 0 where
  pub there : 256 * n < length table
  pub bad : fine_row (row_at table n) ≡ false
  pub before : (k : ℕ) → k < n → fine_row (row_at table k) ≡ true

-- what each answer of an import says
abbrev pub ImportSays : List ℕ → Result ℕ RowRefusal → Type 0
ImportSays table (Ok n) = (ls : List Login) × Holds table ls × (n ≡ length ls)
ImportSays table (Err r) = FaultyRow table r.number

-- row n is that of a login that fits, and v are its values: the texts stand where their rooms start
pub record RowIs (table : List ℕ) (n : ℕ) (login : Login) (v : Values) : Type 0 where
  pub fits : Fits login
  pub there : 256 * n + 256 ≤ length table
  pub row : row_at table n ≡ row_of login
  pub values : v ≡ values_of login
  pub title : login.title ≡ take v.title (drop (256 * n + 16) table)
  pub user : login.user ≡ take v.user (drop (256 * n + 96) table)
  pub group : login.group ≡ take v.group (drop (256 * n + 176) table)

-- what each answer for row n says
abbrev pub RowSays : List ℕ → ℕ → Result (Option Values) RowRefusal → Type 0
RowSays table n (Ok (Some v)) = (l : Login) × RowIs table n l v
RowSays table n (Ok None) = length table ≤ 256 * n
RowSays table n (Err r) = (256 * n < length table) × (fine_row (row_at table n) ≡ false) × (r.number ≡ n)
