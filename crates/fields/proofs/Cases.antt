-- Document 01's cases of the walk, of append and of the values, computed by the definitions: one equation of lists for each of the three.
use Prim.Native.Nat.{ℕ}
use mathlib.Core.Path.{◌≡◌, refl}
use mathlib.Core.Bool.{Bool, true, false}
use mathlib.Core.List.{List, [], ◌∷◌, ◌++◌, map}
use lib.ListN.{length, replicate}
use Rattle.words.specs.Hex.{hex_value, all_digits, hex_number}
use Rattle.words.specs.Members.{to}
use Rattle.words.specs.Numbers.{number_low, bytes_low}
use Rattle.text.specs.Decision.{ends_whole, greatest, goes_wrong_of}
use Rattle.std.proofs.Common.{None, Some, Ok, Err}
use Rattle.fields.specs.Stored.{stored}
use Rattle.fields.specs.Value.{header_shape, record_shape, value_of}
use Rattle.fields.specs.Step.{step_of}
use Rattle.fields.specs.Walk.{Walked, walk_by, walk_of}
use Rattle.fields.specs.Append.{Appended, append_of, buffer_after}
use Rattle.fields.specs.declared.Cursor.{Cursor}
use Rattle.fields.specs.declared.WalkRefusal.TheVariants.{Misplaced, Broken}
use Rattle.fields.specs.declared.store.AppendRefusal.TheVariants as append
use Rattle.fields.specs.declared.value.Value.{Value}

abbrev cursor : ℕ → Bool → Cursor
cursor p r = record { place = p; in_record = r }

-- what the walk takes: a field of type k, at place p, of length n, with the value v, and the cursor after it
abbrev took : ℕ → ℕ → ℕ → Value → Cursor → Walked
took k p n v c = Ok (Some (record { kind = k; place = p; len = n; value = v }, c))

-- Version 03 0e, and its fill
abbrev version : List ℕ → List ℕ
version fill = 0x02 ∷ 0x00 ∷ 0x00 ∷ 0x00 ∷ 0x00 ∷ 0x0e ∷ 0x03 ∷ fill

abbrev end : List ℕ
end = 0x00 ∷ 0x00 ∷ 0x00 ∷ 0x00 ∷ 0xff ∷ replicate 11 0x00

-- (by the definition, by document 01)
abbrev pub walks : List (Walked × Walked)
walks =
    -- a field, its fill anything, and the cursor after it
    (walk_of (version (replicate 9 0x00)) (cursor 0 false), took 0x00 0 2 (Value.Number 0x030e) (cursor 16 false))
    ∷ (walk_of (version (replicate 9 0xff)) (cursor 0 false), took 0x00 0 2 (Value.Number 0x030e) (cursor 16 false))
    -- in a record the same type is no Version
    ∷ (walk_of (version (replicate 9 0x00)) (cursor 0 true), took 0x00 0 2 Value.Opaque (cursor 16 true))
    -- in a record once an END is passed
    ∷ (walk_of (version (replicate 9 0x00) ++ end) (cursor 16 false), took 0xff 16 0 Value.End (cursor 32 true))
    ∷ (walk_of (version (replicate 9 0x00) ++ end) (cursor 16 true), took 0xff 16 0 Value.End (cursor 32 true))
    -- the end when the place is the body's length
    ∷ (walk_of (version (replicate 9 0x00)) (cursor 16 false), Ok None)
    ∷ (walk_of [] (cursor 0 false), Ok None)
    -- 11: place no multiple of 16, or past the buffer; also where the body's length is no multiple of 16
    ∷ (walk_of (version (replicate 9 0x00)) (cursor 8 false), Err Misplaced)
    ∷ (walk_of (version (replicate 9 0x00)) (cursor 32 false), Err Misplaced)
    ∷ (walk_of (version (replicate 8 0x00)) (cursor 15 false), Err Misplaced)
    -- 14: fewer than 16 bytes follow
    ∷ (walk_of (version (replicate 8 0x00)) (cursor 0 false), Err Broken)
    ∷ (walk_of (version (replicate 10 0x00)) (cursor 16 false), Err Broken)
    -- 14: the field with its fill passes the end: 11 bytes of data fill one block, 12 want two
    ∷ (walk_of (0x0b ∷ 0x00 ∷ 0x00 ∷ 0x00 ∷ 0x02 ∷ replicate 11 0x41) (cursor 0 false), took 0x02 0 11 Value.Text (cursor 16 false))
    ∷ (walk_of (0x0c ∷ 0x00 ∷ 0x00 ∷ 0x00 ∷ 0x02 ∷ replicate 12 0x41) (cursor 0 false), Err Broken)
    ∷ (walk_of (0x0c ∷ 0x00 ∷ 0x00 ∷ 0x00 ∷ 0x02 ∷ replicate 26 0x41) (cursor 0 false), Err Broken)
    ∷ (walk_of (0x0c ∷ 0x00 ∷ 0x00 ∷ 0x00 ∷ 0x02 ∷ replicate 27 0x41) (cursor 0 false), took 0x02 0 12 Value.Text (cursor 32 false))
    -- 14: field length 4,294,967,295 in a two-block body; and 4,294,967,291, whose sum with 5 is 0 in 32 bits
    ∷ (walk_of (0xff ∷ 0xff ∷ 0xff ∷ 0xff ∷ 0x02 ∷ replicate 27 0x41) (cursor 0 false), Err Broken)
    ∷ (walk_of (0xfb ∷ 0xff ∷ 0xff ∷ 0xff ∷ 0x02 ∷ replicate 27 0x41) (cursor 0 false), Err Broken)
    -- 14: END with data
    ∷ (walk_of (0x01 ∷ 0x00 ∷ 0x00 ∷ 0x00 ∷ 0xff ∷ replicate 11 0x00) (cursor 0 false), Err Broken)
    ∷ []

-- append to 48 bytes ee, and what they are afterwards
abbrev buffer : List ℕ
buffer = replicate 48 0xee

abbrev appended : ℕ → ℕ → List ℕ → List ℕ → Appended × List ℕ
appended p k d f = (append_of buffer p (stored k d f), buffer_after (append_of buffer p (stored k d f)) buffer p (stored k d f))

abbrev pub appends : List ((Appended × List ℕ) × (Appended × List ℕ))
appends =
    -- only the new field's bytes change
    (appended 16 0x02 (0x41 ∷ []) (replicate 10 0x77), (Ok 32, replicate 16 0xee ++ (0x01 ∷ 0x00 ∷ 0x00 ∷ 0x00 ∷ 0x02 ∷ 0x41 ∷ replicate 10 0x77) ++ replicate 16 0xee))
    ∷ (appended 32 0xff [] (replicate 11 0x00), (Ok 48, replicate 32 0xee ++ end))
    -- 11, then 13, then 12, then 3: at the place 8 all four are there, and one less at each next line
    ∷ (appended 8 0xff (replicate 60 0x00) [], (Err append.Misplaced, buffer))
    ∷ (appended 64 0x02 [] (replicate 11 0x00), (Err append.Misplaced, buffer))
    ∷ (appended 0 0xff (replicate 60 0x00) [], (Err append.EndWithData, buffer))
    ∷ (appended 0 0x02 (replicate 60 0x00) [], (Err append.BadFill, buffer))
    ∷ (appended 0 0x02 (replicate 60 0x00) (replicate 16 0x00), (Err append.BadFill, buffer))
    ∷ (appended 0 0x02 (replicate 60 0x00) (replicate 15 0x00), (Err append.NoRoom, buffer))
    ∷ (appended 48 0x02 [] (replicate 11 0x00), (Err append.NoRoom, buffer))
    ∷ []

-- "1234", which is four bytes and a text; as a number 0x34333231
abbrev four : List ℕ
four = 0x31 ∷ 0x32 ∷ 0x33 ∷ 0x34 ∷ []

abbrev uuid : List ℕ
uuid = to 0x00 0x0f

abbrev id : Value
id = Value.Uuid (record { low = 0x0706050403020100; high = 0x0f0e0d0c0b0a0908 })

-- "48C2f73" and one digit more
abbrev eight : ℕ → List ℕ
eight b = 0x34 ∷ 0x38 ∷ 0x43 ∷ 0x32 ∷ 0x66 ∷ 0x37 ∷ 0x33 ∷ b ∷ []

abbrev pub values : List (List Value × List Value)
values =
    -- four bytes under every type, in the header and in a record
    (
      map (λ k. value_of false k four) (to 0x00 0xff),
      Value.Misshapen ∷ Value.Misshapen ∷ Value.Text ∷ Value.Text ∷ Value.Time 0x34333231 ∷ Value.Text ∷ Value.Text ∷ Value.Text
          ∷ Value.Text ∷ Value.Text ∷ Value.Text ∷ Value.Text ∷ Value.Opaque ∷ Value.Opaque ∷ Value.Opaque ∷ Value.Text
          ∷ Value.Text ∷ Value.Text ∷ Value.Opaque ∷ Value.Time 0x34333231 ∷ (replicate 235 Value.Opaque ++ (Value.End ∷ [])),
    )
    ∷ (
      map (λ k. value_of true k four) (to 0x00 0xff),
      Value.Opaque ∷ Value.Misshapen ∷ Value.Text ∷ Value.Text ∷ Value.Text ∷ Value.Text ∷ Value.Text ∷ Value.Time 0x34333231
          ∷ Value.Time 0x34333231 ∷ Value.Time 0x34333231 ∷ Value.Time 0x34333231 ∷ Value.Opaque ∷ Value.Time 0x34333231 ∷ Value.Text ∷ Value.Text ∷ Value.Text
          ∷ Value.Text ∷ Value.Number 0x34333231 ∷ Value.Text ∷ Value.Misshapen ∷ Value.Text ∷ Value.Misshapen ∷ Value.Text ∷ Value.Misshapen
          ∷ Value.Text ∷ Value.Number 0x34333231 ∷ Value.Opaque ∷ Value.Opaque ∷ Value.Text ∷ Value.Text ∷ Value.Text ∷ Value.Text
          ∷ Value.Text ∷ (replicate 222 Value.Opaque ++ (Value.End ∷ [])),
    )
    -- each at its own size, and off it
    ∷ (value_of false 0x01 uuid ∷ value_of true 0x01 uuid ∷ value_of true 0x01 (0x10 ∷ uuid) ∷ [], id ∷ id ∷ Value.Misshapen ∷ [])
    ∷ (value_of false 0x00 (0x0e ∷ 0x03 ∷ []) ∷ value_of true 0x13 (0x01 ∷ 0x02 ∷ []) ∷ value_of true 0x17 (0x01 ∷ 0x02 ∷ []) ∷ [], Value.Number 0x030e ∷ Value.Number 0x0201 ∷ Value.Number 0x0201 ∷ [])
    ∷ (value_of true 0x15 (0x00 ∷ []) ∷ value_of true 0x15 (0x01 ∷ []) ∷ value_of true 0x15 (0x80 ∷ []) ∷ [], Value.Flag false ∷ Value.Flag true ∷ Value.Flag true ∷ [])
    ∷ (map (λ k. value_of true k (0x01 ∷ 0x02 ∷ 0x03 ∷ [])) (0x07 ∷ 0x11 ∷ 0x13 ∷ 0x15 ∷ []), replicate 4 Value.Misshapen)
    -- Q-2: eight hex digits under the header's types up to 14, and in a record under its times and three others
    ∷ (
      map (λ k. value_of false k (eight 0x39)) (to 0x00 0x14),
      Value.Misshapen ∷ Value.Misshapen ∷ Value.Text ∷ Value.Text ∷ Value.Time 0x48c2f739 ∷ Value.Text ∷ Value.Text ∷ Value.Text
          ∷ Value.Text ∷ Value.Text ∷ Value.Text ∷ Value.Text ∷ Value.Opaque ∷ Value.Opaque ∷ Value.Opaque ∷ Value.Text
          ∷ Value.Text ∷ Value.Text ∷ Value.Opaque ∷ Value.Time 0x48c2f739 ∷ Value.Opaque ∷ [],
    )
    ∷ (map (λ k. value_of true k (eight 0x39)) (0x01 ∷ 0x04 ∷ 0x07 ∷ 0x08 ∷ 0x09 ∷ 0x0a ∷ 0x0c ∷ 0x13 ∷ []), Value.Misshapen ∷ Value.Text ∷ replicate 6 Value.Misshapen)
    -- the last digit of either case; what is next to a digit in ASCII, and what other readers take: + - space x 00
    ∷ (map (λ b. value_of false 0x04 (eight b)) (0x30 ∷ 0x39 ∷ 0x41 ∷ 0x46 ∷ 0x61 ∷ 0x66 ∷ []), map Value.Time (0x48c2f730 ∷ 0x48c2f739 ∷ 0x48c2f73a ∷ 0x48c2f73f ∷ 0x48c2f73a ∷ 0x48c2f73f ∷ []))
    ∷ (map (λ b. value_of false 0x13 (eight b)) (0x2f ∷ 0x3a ∷ 0x40 ∷ 0x47 ∷ 0x60 ∷ 0x67 ∷ 0x2b ∷ 0x2d ∷ 0x20 ∷ 0x78 ∷ 0x00 ∷ 0xff ∷ []), replicate 12 Value.Misshapen)
    -- seven and nine digits, and a byte that is no digit at the front; the least and the greatest
    ∷ (value_of false 0x04 (replicate 7 0x30) ∷ value_of false 0x04 (replicate 9 0x30) ∷ value_of false 0x04 (0x78 ∷ replicate 7 0x30) ∷ [], replicate 3 Value.Misshapen)
    ∷ (value_of false 0x13 (replicate 8 0x30) ∷ value_of false 0x13 (replicate 8 0x46) ∷ [], Value.Time 0 ∷ Value.Time 0xffffffff ∷ [])
    -- BadText with its number, and the same bytes under a type that is none of a text
    ∷ (value_of true 0x03 (0x41 ∷ 0x80 ∷ []) ∷ value_of true 0x03 (0x41 ∷ 0x42 ∷ 0x00 ∷ []) ∷ value_of false 0x02 (0xef ∷ 0xbb ∷ 0xbf ∷ []) ∷ [], Value.BadText 1 ∷ Value.BadText 2 ∷ Value.BadText 0 ∷ [])
    ∷ (value_of true 0x1b (0x41 ∷ 0x80 ∷ []) ∷ value_of true 0x0a (0x41 ∷ 0x80 ∷ []) ∷ [], Value.Opaque ∷ Value.Misshapen ∷ [])
    -- Empty before all but END
    ∷ (map (λ k. value_of false k []) (0x00 ∷ 0x01 ∷ 0x02 ∷ 0x04 ∷ 0x12 ∷ 0xfe ∷ 0xff ∷ []), replicate 6 Value.Empty ++ (Value.End ∷ []))
    ∷ (map (λ k. value_of true k []) (0x00 ∷ 0x01 ∷ 0x02 ∷ 0x15 ∷ 0x1b ∷ 0xfe ∷ 0xff ∷ []), replicate 6 Value.Empty ++ (Value.End ∷ []))
    ∷ []

pub cases : (map (λ c. c.0) walks ≡ map (λ c. c.1) walks)
    × (map (λ c. c.0) appends ≡ map (λ c. c.1) appends)
    × (map (λ c. c.0) values ≡ map (λ c. c.1) values)
unfolding hex_value all_digits hex_number number_low bytes_low ends_whole greatest goes_wrong_of header_shape record_shape value_of step_of walk_by append_of
cases = (refl, refl, refl)

-- 3 past 4,194,096 also where the buffer goes on: no field ends there
pub longest : (b : List ℕ) → length b ≡ 4194304
    → (append_of b 4194080 (stored 0x02 [] (replicate 11 0x00)) ≡ Ok 4194096)
    × (append_of b 4194096 (stored 0x02 [] (replicate 11 0x00)) ≡ Err append.NoRoom)
unfolding append_of
longest b e = (rw e, rw e)
