-- A login as the table has it: "records of one fixed size, no header"; "256 bytes: UUID (16), title (80), user name (80), group (72), signed 32-bit days to expiry (4), zeros (4); texts padded with zeros" (document 02, Q-6).
use Rattle.std.specs.Prelude.{ℕ, List, [], ◌∷◌, ◌++◌, take}
use Rattle.words.specs.Numbers.{bytes_low}
use Rattle.words.specs.Slices.{zeros}

-- days: as they are stored, in two's complement
pub record Login : Type 0 where
  pub uuid : List ℕ
  pub title : List ℕ
  pub user : List ℕ
  pub group : List ℕ
  pub days : ℕ

-- d, then zeros, in n bytes; of more than n bytes the first n, which no accepted export has
unfoldable pub padded : ℕ → List ℕ → List ℕ
padded n d = take n (d ++ zeros n)

unfoldable pub row_of : Login → List ℕ
row_of l =
    padded 16 l.uuid
    ++ (padded 80 l.title
    ++ (padded 80 l.user
    ++ (padded 72 l.group
    ++ (bytes_low 4 l.days
    ++ zeros 4))))

-- the same of values one by one
abbrev pub row_from : List ℕ → List ℕ → List ℕ → List ℕ → ℕ → List ℕ
row_from uuid title user group days = row_of (record { uuid = uuid; title = title; user = user; group = group; days = days })

-- the rows, one after the other
unfoldable pub table_of : List Login → List ℕ
table_of [] = []
table_of (l ∷ ls) = row_of l ++ table_of ls
