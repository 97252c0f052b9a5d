-- A test and what it says, for one element and for each of a list: by cases on the answers.
use Prim.Native.Nat.{ℕ, zero, suc, ◌+◌, ◌<◌, ◌≤◌}
use mathlib.Core.Path.{◌≡◌, refl, ap}
use mathlib.Core.Logic.{◌↔◌}
use mathlib.Core.Bool.{Bool, true, false, cond, ◌&&◌, false≢true}
use mathlib.Core.List.{List, [], ◌∷◌, ◌++◌}
use native.Mathlib.Omega.{arith}
use native.Mathlib.Numerals.{add-one}
use lib.Dec.{eqb, leb}
use lib.ListN.{length, get_or, drop, drop_of_length-le}
use lib.Seq.{drop-cons}
use borrow.Author.Tests.{eqb-true, eq-eqb, eqb-false, leb-true, le-leb}
use Rattle.std.specs.List.{list_all}
use Rattle.words.specs.Each.{Each, all_in}

pub both : (a b : Bool) → (a && b) ≡ true → (a ≡ true) × (b ≡ true)
both true b h = (refl, h)
both false b h = absurd (false≢true h)

pub and : (a b : Bool) → a ≡ true → b ≡ true → (a && b) ≡ true
and a b h g = rw (h, g)

pub equal : (a b : ℕ) → (eqb a b ≡ true) ↔ (a ≡ b)
equal a b = (eqb-true a b, eq-eqb a b)

pub at_most : (a b : ℕ) → (leb a b ≡ true) ↔ (a ≤ b)
at_most a b = (leb-true a b, le-leb a b)

pub each : {A : Type 0} (t : A → Bool) (P : A → Type 0) → ((a : A) → (t a ≡ true) ↔ P a) → (l : List A) → (all_in t l ≡ true) ↔ Each P l
each t P k [] = (λ h. tt, λ h. refl)
each t P k (a ∷ l) =
    let r = each t P k l in
    (λ h. let x = both (t a) (all_in t l) h in ((k a).0 x.0, r.0 x.1), λ h. and (t a) (all_in t l) ((k a).1 h.0) (r.1 h.1))

-- if a is b, then a further test
pub where_equal : (a b : ℕ) (t : Bool) (P : Type 0) → (t ≡ true) ↔ P → (cond (eqb a b) t true ≡ true) ↔ (a ≡ b → P)
where_equal a b t P k = (forth (eqb a b) refl, λ h. back (eqb a b) refl h)
  where
    forth : (c : Bool) → eqb a b ≡ c → cond c t true ≡ true → a ≡ b → P
    forth true e h q = k.0 h
    forth false e h q = absurd (eqb-false a b e q)

    back : (c : Bool) → eqb a b ≡ c → (a ≡ b → P) → cond c t true ≡ true
    back true e h = k.1 (h (eqb-true a b e))
    back false e h = refl

-- of a list in parts
pub each_middle : {A : Type 0} (P : A → Type 0) (a : List A) (x : A) (b : List A) → Each P (a ++ (x ∷ b)) → P x
each_middle P [] x b h = h.0
each_middle P (y ∷ a) x b h = each_middle P a x b h.1

pub each_front : {A : Type 0} (P : A → Type 0) (a b : List A) → Each P (a ++ b) → Each P a
each_front P [] b h = tt
each_front P (y ∷ a) b h = (h.0, each_front P a b h.1)

-- by numbers, with any default
pub each_at : {A : Type 0} (P : A → Type 0) (l : List A) (d : A) → Each P l → (k : ℕ) → k < length l → P (get_or l k d)
each_at P [] d h k g = absurd (omega arith)
each_at P (a ∷ l) d h zero g = h.0
each_at P (a ∷ l) d h (suc k) g = each_at P l d h.1 k (omega arith)

pub each_from : {A : Type 0} (P : A → Type 0) (l : List A) (d : A) → ((k : ℕ) → k < length l → P (get_or l k d)) → Each P l
each_from P [] d h = tt
each_from P (a ∷ l) d h = (h 0 (omega arith), each_from P l d (λ k g. h (suc k) (omega arith)))

-- the same test, as std has it
pub all_is : {A : Type 0} (t : A → Bool) (l : List A) → list_all t l ≡ all_in t l
all_is t [] = refl
all_is t (a ∷ l) = ap (λ (b : Bool). t a && b) (all_is t l)

-- a test of each element, as a loop goes on: of the next one and of those behind it, and of none
module _ {A : Type 0} (t : A → Bool) (l : List A) (d : A) (i : ℕ) where
  pub all_on : i < length l → all_in t (drop i l) ≡ (t (get_or l i d) && all_in t (drop (i + 1) l))
  all_on h = rw (add-one, drop-cons l i d h)

  pub all_end : length l ≤ i → all_in t (drop i l) ≡ true
  all_end h = rw (drop_of_length-le l {i = i} h)
