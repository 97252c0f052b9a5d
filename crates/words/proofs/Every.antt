-- A test that is computed at every number below n holds at each of them: by recursion on n.
use mathlib.Core.Path.{◌≡◌, subst, sym}
use mathlib.Core.Bool.{Bool, true, false, ◌&&◌}
use mathlib.Core.Logic.{⊎_elim}
use Prim.Native.Nat.{ℕ, zero, suc, ◌<◌}
use native.Mathlib.Nat.{eq-or-lt_of_le, le_of_suc-le-suc, not-suc-le-zero}
use lib.Dec.{T, eqb, eqb→eq}

left : (a b : Bool) → T (a && b) → T a
left true b t = tt
left false b t = t

right : (a b : Bool) → T (a && b) → T b
right true b t = t
right false b t = absurd t

abbrev pub all : (ℕ → Bool) → ℕ → Bool
all f zero = true
all f (suc n) = f n && all f n

pub every : (f : ℕ → Bool) (n : ℕ) → T (all f n) → (k : ℕ) → k < n → T (f k)
every f zero t k h = absurd (not-suc-le-zero h)
every f (suc n) t k h =
    ⊎_elim
    (λ e. subst (λ (m : ℕ). T (f m)) (sym e) (left (f n) (all f n) t))
    (λ l. every f n (right (f n) (all f n) t) k l)
    (eq-or-lt_of_le (le_of_suc-le-suc h))

-- two functions that agree at every number below n
pub agree : (f g : ℕ → ℕ) (n : ℕ) → T (all (λ k. eqb (f k) (g k)) n) → (k : ℕ) → k < n → f k ≡ g k
agree f g n t k h = eqb→eq (f k) (g k) (every (λ m. eqb (f m) (g m)) n t k h)
