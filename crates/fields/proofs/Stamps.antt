-- An old save stamp is a Time exactly where its eight bytes spell it, and else Misshapen, as it was; every other field has the value of the list: by the definition, and
-- by what digits come to.
use Prim.Native.Nat.{ℕ, ◌<◌, ◌^◌}
use mathlib.Core.Path.{◌≡◌, refl}
use mathlib.Core.Logic.{◌↔◌, ◌⊎◌}
use mathlib.Core.Bool.{Bool, true, false}
use mathlib.Core.List.{List, map}
use lib.ListN.{length}
use native.Mathlib.Omega.{arith}
use Rattle.std.proofs.lemmas.Bool.Decides.{nat_tests}
use Rattle.words.specs.Hex.{hex_digit, Digits, all_digits, hex_number, digit_values, Spells}
use Rattle.words.proofs.HexNumbers.{digits_fit, digits_exactly, spells_exactly, digits_long, spelled_in}
use Rattle.fields.specs.declared.value.Value.{Value}
use Rattle.fields.specs.Value.{header_shape, listed_of, old_stamp, stamp_of, value_of}
use Rattle.fields.specs.Stamp.{OldStamp}

-- the definition's test picks old stamps, and nothing else
pub old_exactly : (r : Bool) (k : ℕ) (d : List ℕ) → (old_stamp r k (length d) ≡ true) ↔ OldStamp r k d
old_exactly r k d = (λ h. grind (arith, nat_tests), λ o. grind (arith, nat_tests))

module _ (r : Bool) (k : ℕ) (d : List ℕ) where
  pub as_stamp : OldStamp r k d → value_of r k d ≡ stamp_of d
  unfolding value_of
  as_stamp o = rw ((old_exactly r k d).1 o)

  -- Q2.b of every other type, in a record, and at any other length, the value is what it was
  pub as_listed : (OldStamp r k d → ⊥) → value_of r k d ≡ listed_of r k d
  unfolding value_of
  as_listed h = grind (arith, nat_tests, old_exactly r k d)

  module _ (o : OldStamp r k d) where
    -- Q2.a "For header 04 and 13, eight hex digits of either case now give Time"
    pub stamp_exactly : (t : ℕ) → (value_of r k d ≡ Value.Time t) ↔ Spells d t
    stamp_exactly t = grind (arith, as_stamp o, spells_exactly d t)

    -- Q2.a "eight bytes that are not all hex digits stay Misshapen"
    pub stamp_else : (value_of r k d ≡ Value.Misshapen) ↔ (Digits d → ⊥)
    stamp_else = grind (arith, as_stamp o, digits_exactly d)

    -- it was Misshapen, whatever its bytes
    pub stamp_before : listed_of r k d ≡ Value.Misshapen
    unfolding header_shape
    stamp_before = grind (arith, nat_tests)

-- of an old stamp that is not all digits too
pub unless_digits : (r : Bool) (k : ℕ) (d : List ℕ) → (OldStamp r k d → Digits d → ⊥) → value_of r k d ≡ listed_of r k d
unless_digits r k d h = grind (arith, old_exactly r k d, as_listed r k d, stamp_else r k d, stamp_before r k d)

-- Q2.b "Record times stay at 4 bytes"; so what is asked of records alone, by find and by the login table, stays too
pub in_record : (k : ℕ) (d : List ℕ) → value_of true k d ≡ listed_of true k d
unfolding value_of
in_record k d = refl

-- every time has eight digits that give it
pub every_time : (k : ℕ) → (k ≡ 0x04) ⊎ (k ≡ 0x13) → (t : ℕ) → t < 2 ^ 32 → value_of false k (map hex_digit (digit_values 8 t)) ≡ Value.Time t
every_time k h t l =
    let s : Spells (map hex_digit (digit_values 8 t)) t = spelled_in 8 t l in
    (stamp_exactly false k (map hex_digit (digit_values 8 t)) (record { header = refl; kind = h; eight = digits_long 8 t }) t).1 s

-- the number of eight digits fits 32 bits
pub stamp_small : (d : List ℕ) → length d ≡ 8 → all_digits d ≡ true → hex_number d < 2 ^ 32
stamp_small d l h = let n = digits_fit d h in rw l at n
