-- A list with f at each of its places is the table of f, and a loop that stores f place by place makes it: by recursion on the length, and place by place.
use mathlib.Core.Path.{◌≡◌, refl, sym, ap, ◌∙◌, subst}
use mathlib.Core.List.{List}
use mathlib.Core.Logic.{⊎_elim}
use Prim.Native.Nat.{ℕ, zero, suc, ◌+◌, ◌<◌}
use native.Mathlib.Nat.{add-zero, add-suc, suc-add, zero-add, eq-or-lt_of_le, le_of_suc-le-suc, not-suc-le-zero, lt_irrefl}
use native.Mathlib.Numerals.{add-one}
use lib.ListN.{length, set}
use lib.Seq.{ext_get_or, get_or-set_same, get_or-set_other}
use Rattle.words.specs.Table.{at, from, table}

length_from : (n : ℕ) (f : ℕ → ℕ) (i : ℕ) → length (from n f i) ≡ n
length_from zero f i = refl
length_from (suc n) f i = ap suc (length_from n f (suc i))

at_from : (n : ℕ) (f : ℕ → ℕ) (i k : ℕ) → k < n → at (from n f i) k ≡ f (i + k)
at_from zero f i k h = absurd (not-suc-le-zero h)
at_from (suc n) f i zero h = ap f (sym (add-zero i))
at_from (suc n) f i (suc k) h = at_from n f (suc i) k (le_of_suc-le-suc h) ∙ ap f (suc-add i k ∙ sym (add-suc i k))

pub at_table : (n : ℕ) (f : ℕ → ℕ) (k : ℕ) → k < n → at (table n f) k ≡ f k
at_table n f k h = at_from n f 0 k h ∙ ap f (zero-add k)

-- what bounds f bounds the table of f at every place, past its end too
from_fits : (m n : ℕ) (f : ℕ → ℕ) (i k : ℕ) → 0 < m → ((j : ℕ) → f j < m) → at (from n f i) k < m
from_fits m zero f i k p h = p
from_fits m (suc n) f i zero p h = h i
from_fits m (suc n) f i (suc k) p h = from_fits m n f (suc i) k p h

pub table_fits : (m n : ℕ) (f : ℕ → ℕ) (k : ℕ) → 0 < m → ((j : ℕ) → f j < m) → at (table n f) k < m
table_fits m n f k = from_fits m n f 0 k

-- a list with f at each of its n places is the table of f
pub is_table : (n : ℕ) (f : ℕ → ℕ) (l : List ℕ) → length l ≡ n → ((k : ℕ) → k < n → at l k ≡ f k) → l ≡ table n f
is_table n f l e h =
    ext_get_or 0 l (table n f) (e ∙ sym (length_from n f 0))
    (λ k p. let q : k < n = subst (λ (m : ℕ). k < m) e p in h k q ∙ sym (at_table n f k q))

-- one place more
pub table_more : (f : ℕ → ℕ) (l : List ℕ) (i v : ℕ) → i < length l → v ≡ f i → ((k : ℕ) → k < i → at l k ≡ f k)
    → (k : ℕ) → k < i + 1 → at (set l i v) k ≡ f k
table_more f l i v hi e h k p =
    ⊎_elim
    (λ q. subst (λ (m : ℕ). at (set l i v) m ≡ f m) (sym q) (get_or-set_same l i v 0 hi ∙ e))
    (λ q. get_or-set_other l i k v 0 (λ z. lt_irrefl i (subst (λ (m : ℕ). m < i) z q)) ∙ h k q)
    (eq-or-lt_of_le (le_of_suc-le-suc (subst (λ (m : ℕ). k < m) (add-one i) p)))
