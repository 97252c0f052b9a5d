-- What a table of tests decides: all pass, or the first that fails. By recursion on the table.
use Prim.Native.Nat.{ℕ, ◌≤◌}
use mathlib.Core.Path.{◌≡◌, refl, sym, ap, ◌∙◌}
use mathlib.Core.Bool.{Bool, true, false, cond, ◌&&◌}
use mathlib.Core.List.{List, [], ◌∷◌, ◌++◌}
use native.Mathlib.Omega.{arith}
use lib.Dec.{leb}
use borrow.Author.Tests.{leb-true}
use Rattle.file.specs.Refusals.{Test, deciding, First, here, later}
use Rattle.file.proofs.Glue.{and_true}

-- no test of the table fails
abbrev pub Pass : List Test → Type 0
Pass [] = Unit {0}
Pass (t ∷ ts) = (t.fails ≡ false) × Pass ts

-- the numbers of a table lie between a and b
abbrev pub between : ℕ → ℕ → List Test → Bool
between a b [] = true
between a b (t ∷ ts) = leb a t.number && (leb t.number b && between a b ts)

pub data Decided {A : Type 0} (refuse : ℕ → A) (ts : List Test) (y : A) : Type 0 where
  passes : Pass ts → deciding refuse ts y ≡ y → Decided refuse ts y
  stops : (k : ℕ) → First k ts → deciding refuse ts y ≡ refuse k → Decided refuse ts y

module _ {A : Type 0} (refuse : ℕ → A) (y : A) where
  one_more : (t : Test) (ts : List Test) (b : Bool) → t.fails ≡ b → Decided refuse ts y → Decided refuse (t ∷ ts) y
  one_more t ts true e d = stops t.number (here refl e) (ap (λ (b : Bool). cond b (refuse t.number) (deciding refuse ts y)) e)
  one_more t ts false e (passes p q) = passes (e, p) (ap (λ (b : Bool). cond b (refuse t.number) (deciding refuse ts y)) e ∙ q)
  one_more t ts false e (stops k f q) = stops k (later e f) (ap (λ (b : Bool). cond b (refuse t.number) (deciding refuse ts y)) e ∙ q)

  pub decide : (ts : List Test) → Decided refuse ts y
  decide [] = passes tt refl
  decide (t ∷ ts) = one_more t ts t.fails refl (decide ts)

  pub all_pass : (ts : List Test) → Pass ts → deciding refuse ts y ≡ y
  all_pass [] p = refl
  all_pass (t ∷ ts) p = ap (λ (b : Bool). cond b (refuse t.number) (deciding refuse ts y)) p.0 ∙ all_pass ts p.1

  pub first_stops : (k : ℕ) (ts : List Test) → First k ts → deciding refuse ts y ≡ refuse k
  first_stops k ts (here {t = t} {ts = us} n e) = ap (λ (b : Bool). cond b (refuse t.number) (deciding refuse us y)) e ∙ ap refuse n
  first_stops k ts (later {t = t} {ts = us} e f) = ap (λ (b : Bool). cond b (refuse t.number) (deciding refuse us y)) e ∙ first_stops k us f

pub first_between : (a b k : ℕ) {ts : List Test} → between a b ts ≡ true → First k ts → (a ≤ k) × (k ≤ b)
first_between a b k h (here {t = t} {ts = us} n e) =
    let g = and_true (leb a t.number) (leb t.number b && between a b us) h in
    let g' = and_true (leb t.number b) (between a b us) g.1 in
    let p = leb-true a t.number g.0 in
    let q = leb-true t.number b g'.0 in
    (omega arith, omega arith)
first_between a b k h (later {t = t} {ts = us} e f) =
    let g = and_true (leb a t.number) (leb t.number b && between a b us) h in
    first_between a b k (and_true (leb t.number b) (between a b us) g.1).1 f

-- a table that comes to a number, with 0 where all pass, decides everything else that is made of it
module _ {A : Type 0} (refuse : ℕ → A) (y : A) (b : ℕ) (ts : List Test) (r : between 1 b ts ≡ true) where
  pub by_zero : {k : ℕ} → k ≡ deciding (λ (n : ℕ). n) ts 0 → k ≡ 0 → deciding refuse ts y ≡ y
  by_zero e z = go (decide (λ (n : ℕ). n) 0 ts)
    where
      go : Decided (λ (n : ℕ). n) ts 0 → deciding refuse ts y ≡ y
      go (passes p q) = all_pass refuse y ts p
      go (stops m f q) = let g = first_between 1 b m {ts = ts} r f in absurd (omega arith)

  pub by_number : {k : ℕ} → k ≡ deciding (λ (n : ℕ). n) ts 0 → 1 ≤ k → deciding refuse ts y ≡ refuse k
  by_number {k = k} e h = go (decide (λ (n : ℕ). n) 0 ts)
    where
      go : Decided (λ (n : ℕ). n) ts 0 → deciding refuse ts y ≡ refuse k
      go (passes p q) = absurd (omega arith)
      go (stops m f q) = first_stops refuse y m ts f ∙ ap refuse (sym q ∙ sym e)

-- one table after another
pub deciding_append : {A : Type 0} (refuse : ℕ → A) (ts us : List Test) (y : A) → deciding refuse (ts ++ us) y ≡ deciding refuse ts (deciding refuse us y)
deciding_append refuse [] us y = refl
deciding_append refuse (t ∷ ts) us y = ap (cond t.fails (refuse t.number)) (deciding_append refuse ts us y)
