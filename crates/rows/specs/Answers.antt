-- The numbers of an answer: that of the refusal, 0 for none, and what the answer holds.
use Rattle.std.specs.Prelude.{ℕ, ◌+◌, ◌-◌, ◌^◌, cond, List, [], ◌∷◌, ltb, Option, Some, None, Result, Ok, Err}
use Rattle.words.specs.Slices.{zeros}
use Rattle.rows.specs.declared.RowRefusal.{RowRefusal}
use Rattle.rows.specs.declared.Values.{Values}

abbrev pub row_refusal_number : RowRefusal → ℕ
row_refusal_number r = 18

abbrev pub import_number : Result ℕ RowRefusal → ℕ
import_number (Ok n) = 0
import_number (Err r) = row_refusal_number r

-- how many rows, and the number of the row at fault
abbrev pub import_numbers : Result ℕ RowRefusal → List ℕ
import_numbers (Ok n) = n ∷ 0 ∷ []
import_numbers (Err r) = 0 ∷ r.number ∷ []

abbrev pub row_number : Result (Option Values) RowRefusal → ℕ
row_number (Ok o) = 0
row_number (Err r) = row_refusal_number r

-- a signed 32-bit number as a signed 64-bit one, both in two's complement
abbrev pub signed : ℕ → ℕ
signed d = cond (ltb d (2 ^ 31)) d (d + (2 ^ 64 - 2 ^ 32))

-- 1 where there is such a row, the halves of its UUID, the lengths of title, user name and group, the days
abbrev pub row_numbers : Result (Option Values) RowRefusal → List ℕ
row_numbers (Ok (Some v)) = 1 ∷ v.uuid.low ∷ v.uuid.high ∷ v.title ∷ v.user ∷ v.group ∷ signed v.days ∷ []
row_numbers (Ok None) = zeros 7
row_numbers (Err r) = zeros 7
