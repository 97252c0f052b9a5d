-- A record of which nothing is refused fits its row: its one UUID has 16 bytes, and each text was tested.
use Prim.Native.Nat.{ℕ, ◌+◌}
use mathlib.Core.Path.{◌≡◌, refl}
use mathlib.Core.Bool.{Bool, true, false, cond}
use mathlib.Core.List.{List, [], ◌∷◌, map}
use native.Mathlib.Omega.{arith}
use lib.Dec.{eqb}
use lib.ListN.{length}
use borrow.Author.Tests.{eqb-true}
use Rattle.std.specs.Prelude.{Option, Some, None}
use Rattle.words.specs.Each.{Each}
use Rattle.fields.specs.Stored.{Stored}
use Rattle.fields.specs.Value.{value_of}
use Rattle.body.specs.Sections.{count, first_data}
use Rattle.body.specs.WellFormed.{GoodRecord}
use Rattle.rows.specs.Fit.{unfit, is_misshapen, Fits}
use Rattle.rows.proofs.Rounding.{days_fit}
use Rattle.logins.specs.Record.{login_of, fault_of}
use Rattle.logins.specs.Says.{NoFault}

no_fault : (a b c d : Bool) → ◌≡◌ {A = Option ℕ} (cond a (Some 0x03) (cond b (Some 0x04) (cond c (Some 0x02) (cond d (Some 0x0a) None)))) None → (a ≡ false) × (b ≡ false) × (c ≡ false)
no_fault true b c d h = absurd (cc)
no_fault false true c d h = absurd (cc)
no_fault false false true d h = absurd (cc)
no_fault false false false d h = (refl, refl, refl)

first_sized : (k n : ℕ) (u : List Stored) → count k u ≡ 1 → Each (λ f. f.kind ≡ k → length f.content ≡ n) u → length (first_data k u) ≡ n
unfolding first_data
first_sized k n [] h z = absurd (omega arith)
first_sized k n (f ∷ u) h z = by (eqb f.kind k) refl h z.0 (λ e. first_sized k n u e z.1)
  where
    by : (b : Bool) → eqb f.kind k ≡ b → cond b 1 0 + count k u ≡ 1 → (f.kind ≡ k → length f.content ≡ n) → (count k u ≡ 1 → length (first_data k u) ≡ n)
        → length (cond b f.content (first_data k u)) ≡ n
    by true e h g ih = g (eqb-true f.kind k e)
    by false e h g ih = ih (omega arith)

fits : (t : ℕ) (u : List Stored) → GoodRecord u → fault_of u ≡ None → Fits (login_of t u)
unfolding login_of fault_of
fits t u g h =
    let n = no_fault (unfit 0x03 80 (first_data 0x03 u)) (unfit 0x04 80 (first_data 0x04 u)) (unfit 0x02 72 (first_data 0x02 u)) (is_misshapen (value_of true 0x0a (first_data 0x0a u))) h in
    record {
      uuid = first_sized 0x01 16 u g.uuid.once g.uuid.size;
      title = n.0;
      user = n.1;
      group = n.2;
      days = days_fit (value_of true 0x0a (first_data 0x0a u)) t;
    }

pub fit_all : (t : ℕ) (us : List (List Stored)) → Each GoodRecord us → NoFault us → Each Fits (map (login_of t) us)
fit_all t [] g h = tt
fit_all t (u ∷ us) g h = (fits t u g.0 h.0, fit_all t us g.1 h.1)
