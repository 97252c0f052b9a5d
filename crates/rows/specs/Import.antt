-- "Import gives the values of such a table back; it refuses as 18, at the first such record, a cut record, a text that export would refuse or that has anything but zeros after it, and a non-zero pad." (document 02, Q-6)
use Rattle.std.specs.Prelude.{ℕ, zero, suc, ◌+◌, ◌-◌, ◌*◌, ◌/◌, ◌≡◌, Bool, cond, not, ◌&&◌, List, [], ◌∷◌, eqb, leb, length, take, drop, Option, Some, None, Result, Ok, Err}
use Rattle.words.specs.Numbers.{number_low, Bytes}
use Rattle.words.specs.Slices.{zeros, same}
use Rattle.fields.specs.Value.{uuid_in}
use Rattle.rows.specs.Login.{Login}
use Rattle.rows.specs.Fit.{unfit}
use Rattle.rows.specs.declared.RowRefusal.{RowRefusal}
use Rattle.rows.specs.declared.Values.{Values}

-- the bytes of row n, from 0; fewer than 256 where it is cut
abbrev pub row_at : List ℕ → ℕ → List ℕ
row_at t n = take 256 (drop (256 * n) t)

-- how many rows a table has, a cut one included
abbrev pub count_of : List ℕ → ℕ
count_of t = (length t + 255) / 256

-- n bytes of a row, from place p on
abbrev pub column : ℕ → ℕ → List ℕ → List ℕ
column p n r = take n (drop p r)

-- how many bytes stand before the first zero byte
unfoldable pub before_zero : List ℕ → ℕ
before_zero [] = 0
before_zero (b ∷ d) = cond (eqb b 0) 0 (suc (before_zero d))

-- the text in a column, and what is after it
abbrev pub text_in : List ℕ → List ℕ
text_in c = take (before_zero c) c

abbrev pub behind_text : List ℕ → List ℕ
behind_text c = drop (before_zero c) c

unfoldable pub fine_column : ℕ → ℕ → List ℕ → Bool
fine_column k n c = not (unfit k n (text_in c)) && same (behind_text c) (zeros (n - before_zero c))

-- whole, with fine texts and a zero pad
unfoldable pub fine_row : List ℕ → Bool
fine_row r =
    eqb (length r) 256
    && (fine_column 0x03 80 (column 16 80 r)
    && (fine_column 0x04 80 (column 96 80 r)
    && (fine_column 0x02 72 (column 176 72 r)
    && same (column 252 4 r) (zeros 4))))

-- the values of a row
unfoldable pub login_in : List ℕ → Login
login_in r =
    record {
      uuid = take 16 r;
      title = text_in (column 16 80 r);
      user = text_in (column 96 80 r);
      group = text_in (column 176 72 r);
      days = number_low (column 248 4 r);
    }

-- of a table of which the first n rows are fine, and m more are left: how many there are, or the first at fault
unfoldable pub import_from : List ℕ → ℕ → ℕ → Result ℕ RowRefusal
import_from t n zero = Ok n
import_from t n (suc m) = cond (fine_row (row_at t n)) (import_from t (n + 1) m) (Err (record { number = n }))

unfoldable pub import_of : List ℕ → Result ℕ RowRefusal
import_of t = import_from t 0 (count_of t)

-- a login as the code hands it on: its UUID, in two halves, and the lengths of its texts, which stand in the row
abbrev pub values_of : Login → Values
values_of l =
    record {
      uuid = uuid_in l.uuid;
      title = length l.title;
      user = length l.user;
      group = length l.group;
      days = l.days;
    }

-- the values of row n, or that it is refused; nothing where the table has no such row
unfoldable pub show_of : List ℕ → ℕ → Result (Option Values) RowRefusal
show_of t n =
    cond (leb (length t) (256 * n)) (Ok None)
    (cond (fine_row (row_at t n)) (Ok (Some (values_of (login_in (row_at t n))))) (Err (record { number = n })))

-- what a call of `import` and one of `row` ensure
pub record Imports (table : List ℕ) (answer : Result ℕ RowRefusal) : Type 0 where
  pub bytes : Bytes table
  pub is_answer : answer ≡ import_of table

pub record Shows (table : List ℕ) (number : ℕ) (answer : Result (Option Values) RowRefusal) : Type 0 where
  pub bytes : Bytes table
  pub is_answer : answer ≡ show_of table number
