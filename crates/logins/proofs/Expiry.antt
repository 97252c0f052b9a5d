-- The days of a record, as document 02 has them: by the value of its first expiry, whose four bytes are below 2^32.
use Prim.Native.Nat.{ℕ, ◌^◌, ◌*◌, ◌<◌}
use mathlib.Core.Path.{◌≡◌, refl, sym, ap, subst, ◌∙◌}
use mathlib.Core.Bool.{Bool, true, false, cond}
use mathlib.Core.List.{List, [], ◌∷◌}
use lib.Dec.{eqb}
use lib.ListN.{length}
use borrow.Author.Tests.{eqb-true, ne_eqb}
use Rattle.words.specs.Each.{Each}
use Rattle.words.specs.Numbers.{number_low, Bytes}
use Rattle.words.proofs.NumberLaws.{number_fits}
use Rattle.fields.specs.Stored.{Stored}
use Rattle.fields.specs.Value.{record_shape, value_of}
use Rattle.fields.specs.declared.value.Value.{Value}
use Rattle.body.specs.Division.{Whole}
use Rattle.body.specs.Sections.{first_data}
use Rattle.body.specs.WellFormed.{WellFormed}
use Rattle.body.proofs.FindCall.{first_bytes, records_whole}
use Rattle.rows.specs.Days.{days_between, Rounded, days_of}
use Rattle.rows.proofs.Rounding.{rounds}
use Rattle.logins.specs.Record.{login_of}
use Rattle.logins.specs.Says.{DaysAre}

time_small : (d : List ℕ) (e : ℕ) → Bytes d → value_of true 0x0a d ≡ Value.Time e → e < 2 ^ 32
unfolding value_of record_shape
time_small d e b h = by (eqb (length d) 0) (eqb (length d) 4) refl h
  where
    by : (z t : Bool) → eqb (length d) 4 ≡ t → cond z Value.Empty (cond t (Value.Time (number_low d)) Value.Misshapen) ≡ Value.Time e → e < 2 ^ 32
    by true t i h = absurd (cc)
    by false true i h =
        let j : number_low d ≡ e = cc in
        let n : number_low d < 2 ^ (8 * 4) = subst (λ (k : ℕ). number_low d < 2 ^ (8 * k)) (eqb-true (length d) 4 i) (number_fits b) in
        subst (λ (x : ℕ). x < 2 ^ 32) j n
    by false false i h = absurd (cc)

days_never : (t : ℕ) → (days_of Value.Empty t ≡ 2147483647) × (days_of (Value.Time 0) t ≡ 2147483647)
unfolding days_of
days_never t = (refl, refl)

days_some : (e t : ℕ) → (e ≡ 0 → ⊥) → days_of (Value.Time e) t ≡ days_between e t
unfolding days_of
days_some e t n = rw (ne_eqb e 0 n)

days_are : (t : ℕ) (u : List Stored) → t < 2 ^ 32 → Bytes (first_data 0x0a u) → DaysAre t u
unfolding login_of
days_are t u l b =
    record {
      none = λ h. ap (λ (v : Value). days_of v t) h ∙ (days_never t).0;
      zero = λ h. ap (λ (v : Value). days_of v t) h ∙ (days_never t).1;
      some = λ e n h. subst (Rounded e t) (sym (ap (λ (v : Value). days_of v t) h ∙ days_some e t n)) (rounds e t (time_small (first_data 0x0a u) e b h) l);
    }

pub expiries : (s : List ℕ) (w : WellFormed s) (t : ℕ) → t < 2 ^ 32 → Each (λ u. DaysAre t u) w.records
expiries s w t l = by w.records (records_whole s w)
  where
    by : (us : List (List Stored)) → Each (λ u. Each Whole u) us → Each (λ u. DaysAre t u) us
    by [] h = tt
    by (u ∷ us) h = (days_are t u l (first_bytes 0x0a u h.0), by us h.1)
