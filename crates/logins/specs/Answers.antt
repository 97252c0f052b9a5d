-- The numbers of an answer: that of the refusal, 0 for none, and what the answer holds.
use Rattle.std.specs.Prelude.{ℕ, List, [], ◌∷◌, Result, Ok, Err}
use Rattle.words.specs.Slices.{zeros}
use Rattle.logins.specs.declared.ExportRefusal.{ExportRefusal}
use Rattle.logins.specs.declared.ExportRefusal.TheVariants.{NotWellFormed, Faulty, NoRoom}

abbrev pub export_refusal_number : ExportRefusal → ℕ
export_refusal_number NotWellFormed = 9
export_refusal_number (Faulty f) = 18
export_refusal_number NoRoom = 3

abbrev pub export_number : Result ℕ ExportRefusal → ℕ
export_number (Ok n) = 0
export_number (Err e) = export_refusal_number e

-- how many rows; the number of the record at fault, and the type of its field
abbrev pub export_numbers : Result ℕ ExportRefusal → List ℕ
export_numbers (Ok n) = n ∷ 0 ∷ 0 ∷ []
export_numbers (Err NotWellFormed) = zeros 3
export_numbers (Err (Faulty f)) = 0 ∷ f.number ∷ f.kind ∷ []
export_numbers (Err NoRoom) = zeros 3
