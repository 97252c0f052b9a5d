-- The UUIDs from a place on, and the first that comes again, on short bodies: one equation of lists, computed by the definitions, and an answer of each kind.
use Prim.Native.Nat.{ℕ, zero, suc}
use mathlib.Core.Path.{◌≡◌, refl, ap}
use mathlib.Core.List.{List, [], ◌∷◌, ◌++◌, map}
use native.Mathlib.Omega.{arith}
use lib.ListN.{get_or, take, replicate}
use Rattle.std.specs.Prelude.{Some, None}
use Rattle.words.specs.Numbers.{number_low, bytes_low}
use Rattle.fields.specs.Stored.{stored, fill_of, bytes_of}
use Rattle.uuids.specs.Uuids.{uuids_among, uuids_from, Apart, Repeats}

-- a field of type k with n bytes x
abbrev field : ℕ → ℕ → ℕ → List ℕ
field k n x = bytes_of (stored k (replicate n x) (replicate (fill_of n) 0xff))

-- a UUID, and its field
abbrev u : ℕ → List ℕ
u x = replicate 16 x

abbrev id : ℕ → List ℕ
id x = field 0x01 16 x

-- (by the definition, by its words)
abbrev uuids : List (List (List ℕ) × List (List ℕ))
uuids =
    -- one after the other, whatever stands between
    (uuids_from (id 1 ++ (id 2 ++ id 1)) 0, u 1 ∷ u 2 ∷ u 1 ∷ [])
    ∷ (uuids_from (field 0x03 1 7 ++ (id 1 ++ (field 0xff 0 0 ++ id 2))) 0, u 1 ∷ u 2 ∷ [])
    -- from a place on
    ∷ (uuids_from (id 1 ++ id 2) 32, u 2 ∷ [])
    -- of type 01, with 16 bytes
    ∷ (uuids_from (field 0x02 16 1 ++ (field 0x01 15 1 ++ (field 0x01 17 1 ++ id 2))) 0, u 2 ∷ [])
    -- as far as the fields go: the last one is cut by a byte
    ∷ (uuids_from (take 63 (id 1 ++ id 2)) 0, u 1 ∷ [])
    -- at the end and past it
    ∷ (uuids_from (id 1) 32, [])
    ∷ (uuids_from (id 1) 48, [])
    ∷ (uuids_from [] 0, [])
    ∷ []

cases : map (λ c. c.0) uuids ≡ map (λ c. c.1) uuids
unfolding number_low bytes_low uuids_among uuids_from
cases = refl

differ : u 1 ≡ u 2 → ⊥
differ e = let z : ◌≡◌ {A = ℕ} 1 2 = ap (λ (l : List ℕ). get_or l 0 0) e in omega arith

-- of two that come again, the first
first : Repeats (u 1 ∷ u 2 ∷ u 2 ∷ u 1 ∷ []) (Some 2)
first = (omega arith, (1, omega arith, refl), apart)
  where
    apart : Apart (u 1 ∷ u 2 ∷ u 2 ∷ u 1 ∷ []) 2
    apart zero j h g e = absurd (omega arith)
    apart (suc zero) zero h g e = differ e
    apart (suc zero) (suc j) h g e = absurd (omega arith)
    apart (suc (suc i)) j h g e = absurd (omega arith)

none : Repeats (u 1 ∷ u 2 ∷ []) None
none zero j h g e = absurd (omega arith)
none (suc zero) zero h g e = differ e
none (suc zero) (suc j) h g e = absurd (omega arith)
none (suc (suc i)) j h g e = absurd (omega arith)
