-- What the data of a field stands for (document 01, the list of values; document 02, Q-5 and Q-2).
use Rattle.std.specs.Prelude.{ℕ, Bool, cond, not, ◌&&◌, List, [], ◌∷◌, ◌++◌, eqb, length, get_or, take, drop, Option, None, Some}
use Rattle.words.specs.Hex.{all_digits, hex_number}
use Rattle.words.specs.Members.{among, to}
use Rattle.words.specs.Numbers.{number_low}
use Rattle.text.specs.Decision.{goes_wrong_of}
use Rattle.fields.specs.declared.value.Shape.{Shape}
use Rattle.fields.specs.declared.value.Uuid.{Uuid}
use Rattle.fields.specs.declared.value.Value.{Value}

-- the types of each value: in the header, and in a record
abbrev pub header_types : Shape → List ℕ
header_types Shape.Uuid = 0x01 ∷ []
header_types Shape.Time = 0x04 ∷ 0x13 ∷ []
header_types Shape.Word = []
header_types Shape.Half = 0x00 ∷ []
header_types Shape.Flag = []
header_types Shape.Text = 0x02 ∷ 0x03 ∷ to 0x05 0x0b ++ (0x0f ∷ 0x10 ∷ 0x11 ∷ [])
header_types Shape.Opaque = []

abbrev pub record_types : Shape → List ℕ
record_types Shape.Uuid = 0x01 ∷ []
record_types Shape.Time = 0x07 ∷ 0x08 ∷ 0x09 ∷ 0x0a ∷ 0x0c ∷ []
record_types Shape.Word = 0x11 ∷ 0x19 ∷ []
record_types Shape.Half = 0x13 ∷ 0x17 ∷ []
record_types Shape.Flag = 0x15 ∷ []
record_types Shape.Text = to 0x02 0x06 ++ (to 0x0d 0x10 ++ (0x12 ∷ 0x14 ∷ 0x16 ∷ 0x18 ∷ to 0x1c 0x20))
record_types Shape.Opaque = []

-- a type in none of the lists is Opaque
abbrev pub shape_by : (Shape → List ℕ) → ℕ → Shape
shape_by types k =
    cond (among k (types Shape.Uuid)) Shape.Uuid
    (cond (among k (types Shape.Time)) Shape.Time
    (cond (among k (types Shape.Word)) Shape.Word
    (cond (among k (types Shape.Half)) Shape.Half
    (cond (among k (types Shape.Flag)) Shape.Flag
    (cond (among k (types Shape.Text)) Shape.Text Shape.Opaque)))))

unfoldable pub header_shape : ℕ → Shape
header_shape k = shape_by header_types k

unfoldable pub record_shape : ℕ → Shape
record_shape k = shape_by record_types k

-- a value of n bytes; a field of another size is Misshapen
abbrev pub sized : ℕ → List ℕ → Value → Value
sized n d v = cond (eqb (length d) n) v Value.Misshapen

-- Text, or BadText with the number where it goes wrong
abbrev pub textual : Option ℕ → Value
textual None = Value.Text
textual (Some n) = Value.BadText n

-- bytes 0 to 7 and bytes 8 to 15, each little-endian, as every stored number
abbrev pub uuid_in : List ℕ → Uuid
uuid_in d = record { low = number_low (take 8 d); high = number_low (take 8 (drop 8 d)) }

abbrev pub shaped_of : Shape → List ℕ → Value
shaped_of Shape.Uuid d = sized 16 d (Value.Uuid (uuid_in d))
shaped_of Shape.Time d = sized 4 d (Value.Time (number_low d))
shaped_of Shape.Word d = sized 4 d (Value.Number (number_low d))
shaped_of Shape.Half d = sized 2 d (Value.Number (number_low d))
shaped_of Shape.Flag d = sized 1 d (Value.Flag (not (eqb (get_or d 0 0) 0)))
shaped_of Shape.Text d = textual (goes_wrong_of d)
shaped_of Shape.Opaque d = Value.Opaque

-- by the list of values, as document 01 has it, with Q-5's number; r: in a record, not in the header; k: the type; d: the data
abbrev pub listed_of : Bool → ℕ → List ℕ → Value
listed_of r k d =
    cond (eqb k 0xff) Value.End
    (cond (eqb (length d) 0) Value.Empty
    (shaped_of (cond r (record_shape k) (header_shape k)) d))

-- the header's times
abbrev pub header_time : Bool → ℕ → Bool
header_time r k = not r && among k (header_types Shape.Time)

-- one of them with n = 8 bytes is an old save stamp
abbrev pub old_stamp : Bool → ℕ → ℕ → Bool
old_stamp r k n = header_time r k && eqb n 8

-- eight hex digits of either case, the highest first; eight bytes that are not all digits are Misshapen
abbrev pub stamp_of : List ℕ → Value
stamp_of d = cond (all_digits d) (Value.Time (hex_number d)) Value.Misshapen

-- the list, amended by Q-2
unfoldable pub value_of : Bool → ℕ → List ℕ → Value
value_of r k d = cond (old_stamp r k (length d)) (stamp_of d) (listed_of r k d)

-- a value as numbers: its kind, by its place in this list, and what it holds
abbrev pub value_numbers : Value → List ℕ
value_numbers Value.Empty = 0 ∷ 0 ∷ 0 ∷ []
value_numbers Value.End = 1 ∷ 0 ∷ 0 ∷ []
value_numbers (Value.Uuid u) = 2 ∷ u.low ∷ u.high ∷ []
value_numbers (Value.Time t) = 3 ∷ t ∷ 0 ∷ []
value_numbers (Value.Number n) = 4 ∷ n ∷ 0 ∷ []
value_numbers (Value.Flag t) = 5 ∷ cond t 1 0 ∷ 0 ∷ []
value_numbers Value.Text = 6 ∷ 0 ∷ 0 ∷ []
value_numbers (Value.BadText n) = 7 ∷ n ∷ 0 ∷ []
value_numbers Value.Misshapen = 8 ∷ 0 ∷ 0 ∷ []
value_numbers Value.Opaque = 9 ∷ 0 ∷ 0 ∷ []
