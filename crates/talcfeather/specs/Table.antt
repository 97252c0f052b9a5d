-- talc_export, talc_import and talc_row: the answer of the first is three numbers, how many rows, and the record at fault with the type of its field; of the second two, how many rows, and the row at fault; of the third seven, the values of a row.
use Rattle.std.specs.Prelude.{ℕ, ◌^◌, ◌<◌, ◌≡◌, List, length}
use Rattle.words.specs.Numbers.{Bytes}
use Rattle.rows.specs.Import.{import_of, show_of}
use Rattle.rows.specs.Answers.{import_number, import_numbers, row_number, row_numbers}
use Rattle.logins.specs.Export.{export_of, output_after}
use Rattle.logins.specs.Answers.{export_number, export_numbers}
use Rattle.talcfeather.specs.Numbers.{in_bytes}

-- t: the given now; the output holds `before` at first
pub record TalcExport (body : List ℕ) (t : ℕ) (before : List ℕ) (number : ℕ) (output answer : List ℕ) : Type 0 where
  pub bytes : Bytes body
  pub small : t < 2 ^ 32
  pub is_number : number ≡ export_number (export_of body (length before))
  pub is_output : output ≡ output_after (export_of body (length before)) t body before
  pub is_answer : answer ≡ in_bytes (export_numbers (export_of body (length before)))

pub record TalcImport (table : List ℕ) (number : ℕ) (answer : List ℕ) : Type 0 where
  pub bytes : Bytes table
  pub is_number : number ≡ import_number (import_of table)
  pub is_answer : answer ≡ in_bytes (import_numbers (import_of table))

pub record TalcRow (table : List ℕ) (row number : ℕ) (answer : List ℕ) : Type 0 where
  pub bytes : Bytes table
  pub is_number : number ≡ row_number (show_of table row)
  pub is_answer : answer ≡ in_bytes (row_numbers (show_of table row))
