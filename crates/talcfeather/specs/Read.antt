-- talc_read: its answer is K, L and four numbers.
use Rattle.std.specs.Prelude.{ℕ, ◌+◌, ◌-◌, ◌≡◌, List, [], ◌∷◌, ◌++◌, length, take, drop}
use Rattle.words.specs.Numbers.{Bytes}
use Rattle.words.specs.Slices.{zeros}
use Rattle.file.specs.Reading.{Report, reading_of, workspace_of}
use Rattle.safe.specs.V3.{v3_edition}
use Rattle.safe.specs.Answers.{header_count, record_count}
use Rattle.safe.specs.declared.Reading.{Reading}
use Rattle.talcfeather.specs.Numbers.{in_bytes}

-- header fields, records, compressions and blocks
abbrev pub read_numbers : Report → List ℕ
read_numbers r = r.headers ∷ r.records ∷ r.compressions ∷ r.blocks ∷ []

-- the same of an answer
abbrev pub numbers_given : Reading → List ℕ
numbers_given r = header_count r.outcome ∷ record_count r.outcome ∷ r.compressions ∷ r.blocks ∷ []

unfoldable pub answer_bytes : Report → List ℕ
answer_bytes r = r.key_k ++ (r.key_l ++ in_bytes (read_numbers r))

-- the workspace holds `before` at first, of which only the length counts
pub record TalcRead (file passphrase : List ℕ) (ceiling : ℕ) (before : List ℕ) (number : ℕ) (workspace answer : List ℕ) : Type 0 where
  pub bytes : Bytes file
  pub is_number : number ≡ (reading_of v3_edition file passphrase ceiling (length before)).number
  pub is_workspace : workspace ≡ workspace_of (length before) (reading_of v3_edition file passphrase ceiling (length before))
  pub is_answer : answer ≡ answer_bytes (reading_of v3_edition file passphrase ceiling (length before))

-- an acceptance with keys K and L, and the workspace holds the body and zeros after it
pub record TalcAccepts (file before : List ℕ) (number : ℕ) (workspace answer K L body : List ℕ) : Type 0 where
  pub accepts : number ≡ 0
  pub gives_k : take 32 answer ≡ K
  pub gives_l : take 32 (drop 32 answer) ≡ L
  pub long : length file ≡ 200 + length body
  pub holds : workspace ≡ body ++ zeros (length before - length body)
