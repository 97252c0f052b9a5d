-- 16 bytes of a record's type 01 are a UUID by their value, and no other data are: by what a Uuid is (fields, UuidValue.antt).
use mathlib.Core.Path.{◌≡◌, sym}
use mathlib.Core.Logic.{◌↔◌}
use mathlib.Core.Bool.{true}
use mathlib.Core.List.{List}
use Prim.Native.Nat.{ℕ}
use lib.Dec.{eqb}
use lib.ListN.{length, take}
use borrow.Author.Tests.{eqb-true, eq-eqb}
use Rattle.words.specs.Numbers.{number_low}
use Rattle.words.proofs.EachLaws.{both}
use Rattle.fields.specs.Value.{value_of}
use Rattle.fields.specs.declared.value.Uuid.{Uuid}
use Rattle.fields.specs.declared.value.Value.{Value}
use Rattle.fields.proofs.UuidValue.{uuid_exactly}
use Rattle.body.specs.Find.{is_uuid}

pub uuid_value : (d : List ℕ) (u : Uuid) → (value_of true 0x01 d ≡ Value.Uuid u) ↔ (is_uuid d u.low u.high ≡ true)
unfolding is_uuid
uuid_value d u = (
  λ e.
      let h = (uuid_exactly d u).0 e in
      rw (eq-eqb (length d) 16 h.0, eq-eqb _ _ (sym h.1), eq-eqb _ _ (sym h.2)),
  λ e.
      let x = both (eqb (length d) 16) _ e in
      let y = both (eqb (number_low (take 8 d)) u.low) _ x.1 in
      (uuid_exactly d u).1 (eqb-true _ _ x.0, sym (eqb-true _ _ y.0), sym (eqb-true _ _ y.1)),
)
