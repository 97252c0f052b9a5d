-- A list cut into parts of 32 bytes: part k is what stands from byte 32 k on, and a test of all parts is the definition's, which goes by their number. By recursion on the number of parts.
use Prim.Native.Nat.{ℕ, zero, suc, ◌+◌, ◌*◌, ◌<◌}
use mathlib.Core.Path.{◌≡◌, refl, sym, ap, ◌∙◌}
use mathlib.Core.Bool.{Bool, true, false, cond, ◌&&◌}
use mathlib.Core.List.{List, []}
use native.Mathlib.Omega.{arith}
use lib.ListN.{get_or, take, drop}
use lib.Seq.{drop-drop}
use Rattle.std.specs.Simd.{first_chunks}
use Rattle.std.specs.List.{list_all}
use Rattle.replay.specs.State.{entry_at, tidy, tidy_to}

next : (s : List ℕ) (k : ℕ) → entry_at (drop 32 s) k ≡ entry_at s (suc k)
next s k = let q : 32 + 32 * k ≡ 32 * suc k = omega arith in ap (take 32) (drop-drop (32 * k) 32 s ∙ ap (λ (i : ℕ). drop i s) q)

part_at : (n k : ℕ) (s : List ℕ) → k < n → get_or (first_chunks 32 n s) k [] ≡ entry_at s k
part_at zero k s h = absurd (omega arith)
part_at (suc n) zero s h = refl
part_at (suc n) (suc k) s h = part_at n k (drop 32 s) (omega arith) ∙ next s k

pub part_in : (n k : ℕ) (s : List ℕ) (l : List (List ℕ)) → l ≡ first_chunks 32 n s → k < n → get_or l k [] ≡ entry_at s k
part_in n k s l e h = ap (λ (l : List (List ℕ)). get_or l k []) e ∙ part_at n k s h

regroup : (a b c : Bool) → cond a (b && c) false ≡ cond (cond a b false) c false
regroup true true c = refl
regroup true false c = refl
regroup false b c = refl

all_from : (n k : ℕ) (s : List ℕ) → cond (tidy_to s k) (list_all tidy (first_chunks 32 n (drop (32 * k) s))) false ≡ tidy_to s (n + k)
unfolding tidy_to
all_from zero k s = let z : 0 + k ≡ k = omega arith in by (tidy_to s k) ∙ ap (tidy_to s) (sym z)
  where
    by : (b : Bool) → cond b true false ≡ b
    by true = refl
    by false = refl
all_from (suc n) k s =
    let q : 32 * k + 32 ≡ 32 * suc k = omega arith in
    let z : n + suc k ≡ suc n + k = omega arith in
    regroup (tidy_to s k) (tidy (entry_at s k)) (list_all tidy (first_chunks 32 n (drop 32 (drop (32 * k) s))))
    ∙ ap (λ (x : List ℕ). cond (tidy_to s (suc k)) (list_all tidy (first_chunks 32 n x)) false) (drop-drop 32 (32 * k) s ∙ ap (λ (i : ℕ). drop i s) q)
    ∙ all_from n (suc k) s ∙ ap (tidy_to s) z

pub all_tidy : (n : ℕ) (s : List ℕ) → list_all tidy (first_chunks 32 n s) ≡ tidy_to s n
unfolding tidy_to
all_tidy n s = let z : n + 0 ≡ n = omega arith in all_from n 0 s ∙ ap (tidy_to s) z
