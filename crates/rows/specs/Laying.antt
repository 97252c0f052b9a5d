-- How a row is laid, column by column. No statement needs this; what comes of it is `row_of` (proofs/Assembly.antt).
use Rattle.std.specs.Prelude.{ℕ, ◌+◌, List, ◌++◌, take, drop}
use Rattle.words.specs.Slices.{copied}

-- the row r with d over the start of the n bytes from place p on
abbrev pub with_column : ℕ → ℕ → List ℕ → List ℕ → List ℕ
with_column p n d r = take p r ++ (copied (take n (drop p r)) d ++ drop (p + n) r)
