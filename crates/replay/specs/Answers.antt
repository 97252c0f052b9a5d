-- The numbers of an answer: that of the refusal, 0 for none, and what the answer holds.
use Rattle.std.specs.Prelude.{ℕ, cond, List, [], ◌∷◌, ◌++◌, Option, None, Some, Ok, Err}
use Rattle.words.specs.Slices.{zeros}
use Rattle.replay.specs.declared.ReplayRefusal.{ReplayRefusal}
use Rattle.replay.specs.declared.ReplayRefusal.TheVariants.{Record, NotAState}
use Rattle.replay.specs.Replay.{Replayed, Stood}

abbrev pub replay_refusal_number : ReplayRefusal → ℕ
replay_refusal_number (Record n) = 16
replay_refusal_number NotAState = 19

abbrev pub replay_number : Replayed → ℕ
replay_number (Ok x) = 0
replay_number (Err e) = replay_refusal_number e

-- the number of the record at fault
abbrev pub replay_numbers : Replayed → List ℕ
replay_numbers (Ok x) = 0 ∷ []
replay_numbers (Err (Record n)) = n ∷ []
replay_numbers (Err NotAState) = 0 ∷ []

abbrev pub standing_number : Stood → ℕ
standing_number (Ok l) = 0
standing_number (Err e) = 19

-- whether one has come, and its time
abbrev pub latest_numbers : Option ℕ → List ℕ
latest_numbers None = 0 ∷ 0 ∷ []
latest_numbers (Some x) = 1 ∷ x ∷ []

abbrev pub standing_numbers : Stood → List ℕ
standing_numbers (Ok l) = cond l.cancelled 1 0 ∷ (latest_numbers l.cancel ++ latest_numbers l.reissue)
standing_numbers (Err e) = zeros 5
