-- The definitions computed on each side of every line of document 02's Q-6: days, texts, a row and its damages, a table.
use Prim.Native.Nat.{ℕ, ◌-◌, ◌^◌}
use mathlib.Core.Path.{◌≡◌, refl}
use mathlib.Core.Bool.{true, false}
use mathlib.Core.List.{List, [], ◌∷◌, ◌++◌, map}
use lib.ListN.{take, set, replicate}
use Rattle.std.specs.Prelude.{Some, None, Ok, Err}
use Rattle.words.specs.Members.{to}
use Rattle.words.specs.Numbers.{number_low, bytes_low}
use Rattle.words.specs.Slices.{zeros, same}
use Rattle.text.specs.Decision.{ends_whole, greatest, goes_wrong_of}
use Rattle.fields.specs.Value.{record_shape, value_of}
use Rattle.rows.specs.Login.{Login, padded, row_of}
use Rattle.rows.specs.Days.{days_between, days_of}
use Rattle.rows.specs.Fit.{unfit}
use Rattle.rows.specs.Answers.{signed}
use Rattle.rows.specs.Import.{before_zero, fine_column, fine_row, login_in, import_from, import_of, values_of, show_of}
use Rattle.rows.specs.declared.RowRefusal.{RowRefusal}

-- the same second, the last second of the day, a day, and as far as it goes
days_to_come : days_between 5 5 ∷ days_between 86404 5 ∷ days_between 86405 5 ∷ days_between 4294967295 0 ∷ [] ≡ 0 ∷ 0 ∷ 1 ∷ 49710 ∷ []
unfolding days_between
days_to_come = refl

-- a second ago, a day ago, a day and a second ago, and as far as it goes
days_gone : days_between 5 6 ∷ days_between 5 86405 ∷ days_between 5 86406 ∷ days_between 1 4294967295 ∷ []
    ≡ (2 ^ 32 - 1) ∷ (2 ^ 32 - 1) ∷ (2 ^ 32 - 2) ∷ (2 ^ 32 - 49711) ∷ []
unfolding days_between
days_gone = refl

-- no expiry, expiry 0, and expiry 1
never : days_of (value_of true 0x0a []) 2 ∷ days_of (value_of true 0x0a (0 ∷ 0 ∷ 0 ∷ 0 ∷ [])) 2 ∷ days_of (value_of true 0x0a (1 ∷ 0 ∷ 0 ∷ 0 ∷ [])) 2 ∷ []
    ≡ 2147483647 ∷ 2147483647 ∷ (2 ^ 32 - 1) ∷ []
unfolding days_of days_between value_of record_shape number_low
never = refl

title_lengths : map (λ (n : ℕ). unfit 0x03 80 (replicate n 0x41)) (79 ∷ 80 ∷ 81 ∷ []) ≡ false ∷ false ∷ true ∷ []
unfolding unfit value_of record_shape ends_whole greatest goes_wrong_of
title_lengths = refl

group_lengths : map (λ (n : ℕ). unfit 0x02 72 (replicate n 0x41)) (71 ∷ 72 ∷ 73 ∷ []) ≡ false ∷ false ∷ true ∷ []
unfolding unfit value_of record_shape ends_whole greatest goes_wrong_of
group_lengths = refl

-- nothing, a character of two bytes, a zero byte, ff, the byte order mark, and a final 00
texts : map (unfit 0x04 80)
    ([]
    ∷ (0xc3 ∷ 0xa9 ∷ [])
    ∷ (0x41 ∷ 0x00 ∷ 0x42 ∷ [])
    ∷ (0xff ∷ [])
    ∷ (0xef ∷ 0xbb ∷ 0xbf ∷ 0x41 ∷ [])
    ∷ (0x41 ∷ 0x00 ∷ [])
    ∷ [])
    ≡ false ∷ false ∷ true ∷ true ∷ true ∷ true ∷ []
unfolding unfit value_of record_shape ends_whole greatest goes_wrong_of
texts = refl

-- ==== A row: two days gone; and one whose texts leave no zero byte
abbrev login : Login
login = record { uuid = to 1 16; title = 0x41 ∷ 0x42 ∷ []; user = 0x55 ∷ []; group = 0x47 ∷ 0x48 ∷ 0x49 ∷ []; days = 2 ^ 32 - 2 }

abbrev row : List ℕ
row =
    to 1 16
    ++ (0x41 ∷ 0x42 ∷ zeros 78
    ++ (0x55 ∷ zeros 79
    ++ (0x47 ∷ 0x48 ∷ 0x49 ∷ zeros 69
    ++ (0xfe ∷ 0xff ∷ 0xff ∷ 0xff ∷ 0x00 ∷ 0x00 ∷ 0x00 ∷ 0x00 ∷ []))))

row_is : row_of login ≡ row
unfolding row_of padded bytes_low
row_is = refl

row_fine : fine_row row ≡ true
unfolding fine_row fine_column unfit before_zero value_of record_shape ends_whole greatest goes_wrong_of same
row_fine = refl

-- cut, too long; a byte after each text, and the last of its column; each byte of the pad; a text that is none, in each column
damaged : map fine_row
    (take 255 row
    ∷ (row ++ (0 ∷ []))
    ∷ set row 19 0x43
    ∷ set row 95 0x43
    ∷ set row 98 0x43
    ∷ set row 175 0x43
    ∷ set row 180 0x43
    ∷ set row 247 0x43
    ∷ set row 252 1
    ∷ set row 253 1
    ∷ set row 254 1
    ∷ set row 255 1
    ∷ set row 16 0xff
    ∷ set row 96 0xff
    ∷ set row 176 0xff
    ∷ [])
    ≡ replicate 15 false
unfolding fine_row fine_column unfit before_zero value_of record_shape ends_whole greatest goes_wrong_of same
damaged = refl

row_back : login_in row ≡ login
unfolding login_in before_zero number_low
row_back = refl

abbrev full : Login
full = record { uuid = to 1 16; title = replicate 80 0x41; user = replicate 80 0x42; group = replicate 72 0x43; days = 0 }

full_fine : fine_row (row_of full) ≡ true
unfolding row_of padded bytes_low fine_row fine_column unfit before_zero value_of record_shape ends_whole greatest goes_wrong_of same
full_fine = refl

full_back : login_in (row_of full) ≡ full
unfolding row_of padded bytes_low login_in before_zero number_low
full_back = refl

abbrev refused : ℕ → RowRefusal
refused n = record { number = n }

-- ==== Tables of no row, of two, and with a fault at the second: a damaged row, one byte too much
tables : map import_of ([] ∷ (row ++ row) ∷ (row ++ set row 255 1) ∷ (row ++ (0 ∷ [])) ∷ [])
    ≡ Ok 0 ∷ Ok 2 ∷ Err (refused 1) ∷ Err (refused 1) ∷ []
unfolding import_of import_from fine_row fine_column unfit before_zero value_of record_shape ends_whole greatest goes_wrong_of same
tables = refl

-- a row is shown whatever the others are
shows : map (show_of (set row 255 1 ++ (row ++ (0 ∷ [])))) (0 ∷ 1 ∷ 2 ∷ 3 ∷ [])
    ≡ Err (refused 0) ∷ Ok (Some (values_of login)) ∷ Err (refused 2) ∷ Ok None ∷ []
unfolding show_of login_in number_low fine_row fine_column unfit before_zero value_of record_shape ends_whole greatest goes_wrong_of same
shows = refl

-- any UUID and any days are fine
still_fine_lem : map fine_row (set row 0 0xff ∷ set row 15 0 ∷ set row 248 0 ∷ set row 251 0x80 ∷ []) ≡ replicate 4 true
unfolding fine_row fine_column unfit before_zero value_of record_shape ends_whole greatest goes_wrong_of same
still_fine_lem = refl

-- the largest number of days, the smallest, and -1, in 64 bits
in_64_bits : map signed (2147483647 ∷ 2147483648 ∷ 4294967295 ∷ []) ≡ 2147483647 ∷ 18446744071562067968 ∷ 18446744073709551615 ∷ []
in_64_bits = refl
