-- talc_judge: its answer is two numbers, those of header fields and of records.
use Rattle.std.specs.Prelude.{ℕ, ◌≡◌, List, Result}
use Rattle.body.specs.Decision.{judged_of, judge_number, judge_values}
use Rattle.body.specs.declared.Counts.{Counts}
use Rattle.body.specs.declared.NotWellFormed.{NotWellFormed}
use Rattle.talcfeather.specs.Numbers.{with_zeros, in_bytes}

-- zero where refused
abbrev pub judge_numbers : Result Counts NotWellFormed → List ℕ
judge_numbers j = with_zeros 2 (judge_values j)

pub record TalcJudge (body : List ℕ) (number : ℕ) (answer : List ℕ) : Type 0 where
  pub is_number : number ≡ judge_number (judged_of body)
  pub is_answer : answer ≡ in_bytes (judge_numbers (judged_of body))
