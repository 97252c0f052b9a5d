-- What a check of the records comes to: Ok where nothing is refused, else the first at fault; in both directions, by recursion on the records.
use Prim.Native.Nat.{ℕ, suc, ◌+◌}
use mathlib.Core.Path.{◌≡◌, refl, sym, ap, subst, ◌∙◌}
use mathlib.Core.Bool.{Bool, true, false, cond}
use mathlib.Core.List.{List, [], ◌∷◌, ◌++◌}
use native.Mathlib.Nat.{add-zero}
use native.Mathlib.Omega.{arith}
use lib.ListN.{length}
use Rattle.std.specs.Prelude.{Option, Some, None, Ok, Err}
use Rattle.fields.specs.Stored.{Stored}
use Rattle.logins.specs.Record.{fault_of}
use Rattle.logins.specs.Export.{or_others, checked_from}
use Rattle.logins.specs.Says.{NoFault, FaultyRecord}
use Rattle.logins.specs.declared.Fault.{Fault}

-- a type of the four
some_of : (a b c d : Bool) (k : ℕ) → cond a (Some 0x03) (cond b (Some 0x04) (cond c (Some 0x02) (cond d (Some 0x0a) None))) ≡ Some k → k ≡ 0 → ⊥
some_of true b c d k h z = let i : 0x03 ≡ k = cc in omega arith
some_of false true c d k h z = let i : 0x04 ≡ k = cc in omega arith
some_of false false true d k h z = let i : 0x02 ≡ k = cc in omega arith
some_of false false false true k h z = let i : 0x0a ≡ k = cc in omega arith
some_of false false false false k h z = cc

fault_some : (u : List Stored) (k : ℕ) → fault_of u ≡ Some k → k ≡ 0 → ⊥
unfolding fault_of
fault_some u k h = some_of _ _ _ _ k h

pub checked_fine : (n : ℕ) (us : List (List Stored)) → checked_from n us ≡ Ok tt → NoFault us
unfolding checked_from
checked_fine n [] e = tt
checked_fine n (u ∷ us) e = by (fault_of u) refl e (checked_fine (n + 1) us)
  where
    by : (o : Option ℕ) → fault_of u ≡ o → or_others o n (checked_from (n + 1) us) ≡ Ok tt → (checked_from (n + 1) us ≡ Ok tt → NoFault us) → (fault_of u ≡ None) × NoFault us
    by None h e ih = (h, ih e)
    by (Some k) h e ih = absurd (cc)

pub checked_fault : (n : ℕ) (us : List (List Stored)) (f : Fault) → checked_from n us ≡ Err f → (j : ℕ) × (f.number ≡ n + j) × FaultyRecord us j f.kind
unfolding checked_from
checked_fault n [] f e = absurd (cc)
checked_fault n (u ∷ us) f e = by (fault_of u) refl e (checked_fault (n + 1) us f)
  where
    by : (o : Option ℕ) → fault_of u ≡ o → or_others o n (checked_from (n + 1) us) ≡ Err f
        → (checked_from (n + 1) us ≡ Err f → (j : ℕ) × (f.number ≡ n + 1 + j) × FaultyRecord us j f.kind) → (j : ℕ) × (f.number ≡ n + j) × FaultyRecord (u ∷ us) j f.kind
    by None h e ih =
        let x = ih e in
        let y = x.2 in (
          1 + x.0,
          omega (arith, x.1),
          record {
            before = u ∷ y.before;
            faulty = y.faulty;
            others = y.others;
            are = ap (◌∷◌ u) y.are;
            number = omega (arith, y.number);
            none_before = (h, y.none_before);
            field = y.field;
            some = y.some;
          },
        )
    by (Some k) h e ih =
        let i : record { number = n; kind = k } ≡ f = cc in
        (0, omega (arith, ap (λ (x : Fault). x.number) i), subst (λ (x : Fault). FaultyRecord (u ∷ us) 0 x.kind) i (record { before = []; faulty = u; others = us; are = refl; number = refl; none_before = tt; field = h; some = fault_some u k h }))

passed : (n : ℕ) (u : List Stored) (us : List (List Stored)) → fault_of u ≡ None → checked_from n (u ∷ us) ≡ checked_from (n + 1) us
unfolding checked_from
passed n u us h = rw h

pub fine_checked : (n : ℕ) (us : List (List Stored)) → NoFault us → checked_from n us ≡ Ok tt
unfolding checked_from
fine_checked n [] h = refl
fine_checked n (u ∷ us) h = passed n u us h.0 ∙ fine_checked (n + 1) us h.1

stopped : (n : ℕ) (u : List Stored) (us : List (List Stored)) (k : ℕ) → fault_of u ≡ Some k → checked_from n (u ∷ us) ≡ Err (record { number = n; kind = k })
unfolding checked_from
stopped n u us k e = rw e

pub faulty_checked : (n : ℕ) (us : List (List Stored)) (m k : ℕ) → FaultyRecord us m k → checked_from n us ≡ Err (record { number = n + m; kind = k })
faulty_checked n us m k f = ap (checked_from n) f.are ∙ by n f.before f.none_before ∙ ap (λ (j : ℕ). Err (record { number = n + j; kind = k })) (sym f.number)
  where
    by : (n : ℕ) (before : List (List Stored)) → NoFault before → checked_from n (before ++ (f.faulty ∷ f.others)) ≡ Err (record { number = n + length before; kind = k })
    by n [] h = stopped n f.faulty f.others k f.field ∙ ap (λ (j : ℕ). Err (record { number = j; kind = k })) (sym (add-zero n))
    by n (u ∷ before) h =
        let z : n + 1 + length before ≡ n + suc (length before) = omega arith in
        passed n u (before ++ (f.faulty ∷ f.others)) h.0 ∙ by (n + 1) before h.1 ∙ ap (λ (j : ℕ). Err (record { number = j; kind = k })) z
