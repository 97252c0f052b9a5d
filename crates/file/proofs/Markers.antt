-- The first marker stands right behind the body exactly when no block of the body is the marker: block by block.
use Prim.Native.Nat.{ℕ, zero, suc, ◌+◌, ◌*◌, ◌<◌, ◌≤◌}
use mathlib.Core.Path.{◌≡◌, refl, sym, ap, ◌∙◌}
use mathlib.Core.Bool.{Bool, true, false, cond, ◌&&◌, not}
use mathlib.Core.List.{List, [], ◌∷◌, ◌++◌}
use native.Mathlib.Omega.{arith}
use borrow.Author.Tests.{not-true, lt-ltb, le-ltb, ltb-false, ne_eqb, eqb-true, eqb-false}
use lib.ListN.{length, take, drop, length-drop}
use lib.Dec.{ltb, eqb, eqb-zero-suc, eqb-suc-suc}
use lib.Seq.{drop-drop, take_at, take-append-le, drop-append-le}
use Rattle.std.specs.List.{position_or_len}
use Rattle.std.specs.Simd.{first_chunks}
use Rattle.std.specs.Prelude.{Some, None, is_some}
use Rattle.std.specs.Option.{option_eq}
use Rattle.words.specs.Slices.{same}
use Rattle.words.proofs.SliceLaws.{same_true, same_refl}
use Rattle.file.specs.Layout.{marker, first_marker, marked_at}
use Rattle.file.specs.Writing.{clear}
use Rattle.file.proofs.Glue.{and_true}

-- the first marker stands right behind the body
marker_here : (t : Bool) (k : ℕ) → cond t 0 (suc k) ≡ 0 → t ≡ true
marker_here true k h = refl
marker_here false k h = absurd (omega arith)

not_here : (t : Bool) (k n : ℕ) → cond t 0 (suc k) ≡ suc n → (t ≡ false) × (k ≡ n)
not_here true k n h = absurd (omega arith)
not_here false k n h = (refl, omega arith)

cut : (n : ℕ) (c r : List ℕ) → length c ≡ 16 * suc n → (take 16 (c ++ r) ≡ take 16 c) × (drop 16 (c ++ r) ≡ drop 16 c ++ r)
cut n c r h = (take-append-le 16 c r (omega arith), drop-append-le 16 c r (omega arith))

pub marker_found : (n t : ℕ) (c m h : List ℕ) → t ≡ n + 3 → length c ≡ 16 * n → length m ≡ 16
    → first_marker t (c ++ (m ++ h)) ≡ n → (clear n c ≡ true) × (m ≡ marker)
unfolding first_marker clear
marker_found zero zero c m h e hc hm f = absurd (omega arith)
marker_found (suc n) zero c m h e hc hm f = absurd (omega arith)
marker_found zero (suc t) [] m h e hc hm f =
    (refl, same_true m marker (marker_here (same m marker) (first_marker t (drop 16 (m ++ h))) (rw (take_at m h 16 hm) at f)))
marker_found zero (suc t) (a ∷ c) m h e hc hm f = absurd (omega arith)
marker_found (suc n) (suc t) c m h e hc hm f =
    let g = cut n c (m ++ h) hc in
    let q = not_here (same (take 16 c) marker) (first_marker t (drop 16 c ++ (m ++ h))) n (rw (g.0, g.1) at f) in
    let r = marker_found n t (drop 16 c) m h (omega arith) (simp length-drop (omega arith)) hm q.1 in
    (rw q.0 r.0, r.1)

pub marker_sized : length marker ≡ 16
unfolding marker
marker_sized = refl

pub marker_first : (n t : ℕ) (c h : List ℕ) → t ≡ n + 3 → length c ≡ 16 * n
    → clear n c ≡ true → first_marker t (c ++ (marker ++ h)) ≡ n
unfolding first_marker clear
marker_first zero zero c h e hc f = absurd (omega arith)
marker_first (suc n) zero c h e hc f = absurd (omega arith)
marker_first zero (suc t) [] h e hc f = rw (take_at marker h 16 marker_sized, same_refl marker)
marker_first zero (suc t) (a ∷ c) h e hc f = absurd (omega arith)
marker_first (suc n) (suc t) c h e hc f =
    let g = cut n c (marker ++ h) hc in
    let q = and_true (not (same (take 16 c) marker)) (clear n (drop 16 c)) f in
    rw (g.0, g.1, not-true (same (take 16 c) marker) q.0)
    (ap suc (marker_first n t (drop 16 c) h (omega arith) (simp length-drop (omega arith)) q.1))

-- no one of the blocks is the marker
apart : (a b : List ℕ) → (a ≡ b → ⊥) → not (same a b) ≡ true
apart a b h = go (same a b) refl
  where
    go : (t : Bool) → same a b ≡ t → not t ≡ true
    go true e = absurd (h (same_true a b e))
    go false e = refl

next_block : (j : ℕ) (l : List ℕ) → drop (16 * suc j) l ≡ drop (16 * j) (drop 16 l)
next_block j l = let e : 16 * suc j ≡ 16 + 16 * j = omega arith in rw e (sym (drop-drop (16 * j) 16 l))

pub clear_each : (n : ℕ) (l : List ℕ) → clear n l ≡ true → (j : ℕ) → j < n → take 16 (drop (16 * j) l) ≡ marker → ⊥
unfolding clear
clear_each zero l h j hj e = omega arith
clear_each (suc n) l h zero hj e =
    let g = and_true (not (same (take 16 l) marker)) (clear n (drop 16 l)) h in
    let z : ◌≡◌ {A = Bool} true false = sym (same_refl marker) ∙ rw e at (not-true (same (take 16 l) marker) g.0) in
    let o : ◌≡◌ {A = ℕ} 0 1 = cc in omega arith
clear_each (suc n) l h (suc j) hj e =
    let g = and_true (not (same (take 16 l) marker)) (clear n (drop 16 l)) h in
    clear_each n (drop 16 l) g.1 j (omega arith) (rw (next_block j l) at e)

pub each_clear : (n : ℕ) (l : List ℕ) → ((j : ℕ) → j < n → take 16 (drop (16 * j) l) ≡ marker → ⊥) → clear n l ≡ true
unfolding clear
each_clear zero l h = refl
each_clear (suc n) l h =
    rw (apart (take 16 l) marker (h 0 (omega arith)))
    (each_clear n (drop 16 l) (λ j hj e. h (suc j) (omega arith) (rw (next_block j l) e)))

-- std's search over the blocks
one_block : (t u : Bool) (k n : ℕ) → t ≡ u → k ≡ n → cond (not t) (1 + k) 0 ≡ cond u 0 (suc n)
one_block true u k n e f = rw (← e) refl
one_block false u k n e f = rw (← e) (omega arith)

pub searched : (m : List ℕ) → m ≡ marker → (n : ℕ) (l : List ℕ) → position_or_len (λ b. same b m) (first_chunks 16 n l) ≡ first_marker n l
unfolding first_marker
searched m e zero l = refl
searched m e (suc n) l =
    one_block _ _ _ _ (ap (same (take 16 l)) e) (searched m e n (drop 16 l))

-- none of n blocks is the marker exactly where the scan comes to n
first_clear : (b : Bool) (k n : ℕ) → eqb (cond b 0 (suc k)) (suc n) ≡ not b && eqb k n
first_clear true k n = eqb-zero-suc n
first_clear false k n = eqb-suc-suc k n

pub clear_is : (n : ℕ) (l : List ℕ) → eqb (first_marker n l) n ≡ clear n l
unfolding first_marker clear
clear_is zero l = refl
clear_is (suc n) l =
    first_clear (same (take 16 l) marker) (first_marker n (drop 16 l)) n ∙ ap (λ (b : Bool). not (same (take 16 l) marker) && b) (clear_is n (drop 16 l))

-- ---- the block's number as an Option
marker_within : (n : ℕ) (l : List ℕ) → first_marker n l ≤ n
unfolding first_marker
marker_within zero l = omega arith
marker_within (suc n) l = by (same (take 16 l) marker) (marker_within n (drop 16 l))
  where
    by : (b : Bool) → first_marker n (drop 16 l) ≤ n → cond b 0 (suc (first_marker n (drop 16 l))) ≤ suc n
    by true h = omega arith
    by false h = omega arith

-- there is one exactly where not all of the n blocks are another
pub marked_some : (n : ℕ) (l : List ℕ) → is_some (marked_at n l) ≡ not (clear n l)
marked_some n l = by (eqb (first_marker n l) n) refl ∙ ap not (clear_is n l)
  where
    by : (t : Bool) → eqb (first_marker n l) n ≡ t → is_some (marked_at n l) ≡ not t
    by true e = rw (le-ltb (first_marker n l) n (omega (arith, eqb-true (first_marker n l) n e)))
    by false e = rw (lt-ltb (first_marker n l) n (below (eqb-false (first_marker n l) n e) (marker_within n l)))
      where
        below : (first_marker n l ≡ n → ⊥) → first_marker n l ≤ n → first_marker n l < n
        below a b = omega arith

-- it is number k, which is one of them, exactly where the definition gives k
pub marked_number : (n k : ℕ) (l : List ℕ) → k < n → option_eq eqb (marked_at n l) (Some k) ≡ eqb (first_marker n l) k
marked_number n k l h = by (ltb (first_marker n l) n) refl
  where
    by : (t : Bool) → ltb (first_marker n l) n ≡ t → option_eq eqb (cond t (Some (first_marker n l)) None) (Some k) ≡ eqb (first_marker n l) k
    by true e = refl
    by false e = sym (ne_eqb (first_marker n l) k (λ z. omega (arith, ltb-false (first_marker n l) n e)))
