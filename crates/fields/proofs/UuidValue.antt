-- A record's type 01 is a Uuid exactly where it has 16 bytes, with the halves of these bytes: by the rule of values.
use mathlib.Core.Path.{◌≡◌}
use mathlib.Core.Logic.{◌↔◌}
use mathlib.Core.Bool.{true}
use mathlib.Core.List.{List}
use Prim.Native.Nat.{ℕ}
use native.Mathlib.Omega.{arith}
use lib.ListN.{length, take, drop}
use Rattle.std.proofs.lemmas.Bool.Decides.{nat_tests}
use Rattle.words.specs.Numbers.{number_low}
use Rattle.fields.specs.Value.{value_of, record_shape}
use Rattle.fields.specs.declared.value.Uuid.{Uuid}
use Rattle.fields.specs.declared.value.Value.{Value}

pub uuid_exactly : (d : List ℕ) (u : Uuid)
    → (value_of true 0x01 d ≡ Value.Uuid u) ↔ ((length d ≡ 16) × (u.low ≡ number_low (take 8 d)) × (u.high ≡ number_low (take 8 (drop 8 d))))
unfolding value_of record_shape
uuid_exactly d u = grind (arith, nat_tests)
