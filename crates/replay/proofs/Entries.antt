-- An entry that is put into a state is there, the others stay, and its parts are what it was made of: by the lengths of the parts.
use Prim.Native.Nat.{ℕ, zero, suc, ◌+◌, ◌*◌, ◌-◌, ◌^◌, ◌<◌, ◌≤◌}
use mathlib.Core.Path.{◌≡◌, refl, sym, ap, ap₂, ◌∙◌}
use mathlib.Core.Logic.{⊎_elim}
use mathlib.Core.List.{List, [], ◌∷◌, ◌++◌, append_assoc}
use native.Mathlib.Omega.{arith}
use lib.ListN.{length, take, drop, length-append, length-take, length-drop, take-append-drop}
use lib.Seq.{take_at, drop_at, take-append-le, drop-append-le, drop-drop, length-take-le, take_all}
use Rattle.words.specs.Numbers.{number_low, bytes_low}
use Rattle.words.proofs.NumberLaws.{number_bytes, bytes_sized}
use Rattle.words.proofs.Either.{lt_or_ge, eq_or_ne}
use Rattle.replay.specs.State.{entry_at, id_of, cancel_of, reissue_of, entry_of, put}

pub entry_long : (s : List ℕ) (k : ℕ) → length s ≡ 131072 → k < 4096 → length (entry_at s k) ≡ 32
entry_long s k h l = simp (length-take, length-drop) (omega arith)

module _ (s : List ℕ) (i : ℕ) (e : List ℕ) (h : length s ≡ 131072) (l : i < 4096) (m : length e ≡ 32) where
  front : length (take (32 * i) s) ≡ 32 * i
  front = length-take-le (32 * i) s (omega arith)

  fore : length (take (32 * i) s ++ e) ≡ 32 * i + 32
  fore = length-append (take (32 * i) s) e ∙ ap₂ ◌+◌ front m

  regroup : put s i e ≡ (take (32 * i) s ++ e) ++ drop (32 * i + 32) s
  unfolding put
  regroup = sym (append_assoc (take (32 * i) s) e (drop (32 * i + 32) s))

  pub put_long : length (put s i e) ≡ 131072
  put_long = ap length regroup ∙ length-append (take (32 * i) s ++ e) (drop (32 * i + 32) s) ∙ rw (fore, length-drop (32 * i + 32) s) (omega arith)

  pub put_here : entry_at (put s i e) i ≡ e
  unfolding put
  put_here = ap (take 32) (drop_at (take (32 * i) s) (e ++ drop (32 * i + 32) s) (32 * i) front) ∙ take_at e (drop (32 * i + 32) s) 32 m

  -- an entry before the i-th lies in the front
  early : (k : ℕ) (x : List ℕ) → k < i → entry_at (take (32 * i) s ++ x) k ≡ take 32 (drop (32 * k) (take (32 * i) s))
  early k x g =
      let n : 32 ≤ length (drop (32 * k) (take (32 * i) s)) = rw (length-drop (32 * k) (take (32 * i) s), front) (omega arith) in
      ap (take 32) (drop-append-le (32 * k) (take (32 * i) s) x (rw front (omega arith)))
      ∙ take-append-le 32 (drop (32 * k) (take (32 * i) s)) x n

  put_before : (k : ℕ) → k < i → entry_at (put s i e) k ≡ entry_at s k
  unfolding put
  put_before k g =
      early k (e ++ drop (32 * i + 32) s) g ∙ sym (early k (drop (32 * i) s) g) ∙ ap (λ (x : List ℕ). entry_at x k) (take-append-drop (32 * i) s)

  put_after : (k : ℕ) → i < k → entry_at (put s i e) k ≡ entry_at s k
  put_after k g =
      let z : (32 * i + 32) + (32 * k - (32 * i + 32)) ≡ 32 * k = omega arith in
      let w : drop (32 * i + 32) (put s i e) ≡ drop (32 * i + 32) s = ap (drop (32 * i + 32)) regroup ∙ drop_at (take (32 * i) s ++ e) (drop (32 * i + 32) s) (32 * i + 32) fore in
      ap (take 32)
      (ap (λ (n : ℕ). drop n (put s i e)) (sym z) ∙ sym (drop-drop (32 * k - (32 * i + 32)) (32 * i + 32) (put s i e))
      ∙ ap (drop (32 * k - (32 * i + 32))) w ∙ drop-drop (32 * k - (32 * i + 32)) (32 * i + 32) s ∙ ap (λ (n : ℕ). drop n s) z)

  pub put_there : (k : ℕ) → (k ≡ i → ⊥) → entry_at (put s i e) k ≡ entry_at s k
  put_there k n = ⊎_elim (λ g. put_before k g) (λ g. put_after k (omega arith)) (lt_or_ge k i)

module _ (u : List ℕ) (c d : ℕ) (h : length u ≡ 16) where
  pub entry_of_long : length (entry_of u c d) ≡ 32
  entry_of_long = length-append u (bytes_low 8 c ++ bytes_low 8 d) ∙ rw (h, length-append (bytes_low 8 c) (bytes_low 8 d), (bytes_sized 8 c).long, (bytes_sized 8 d).long)

  pub entry_id : id_of (entry_of u c d) ≡ u
  entry_id = take_at u (bytes_low 8 c ++ bytes_low 8 d) 16 h

  marks : drop 16 (entry_of u c d) ≡ bytes_low 8 c ++ bytes_low 8 d
  marks = drop_at u (bytes_low 8 c ++ bytes_low 8 d) 16 h

  number : (x : ℕ) → x < 2 ^ 64 → number_low (bytes_low 8 x) ≡ x
  number x l = number_bytes 8 x ∙ omega arith

  pub entry_cancel : c < 2 ^ 64 → cancel_of (entry_of u c d) ≡ c
  entry_cancel l =
      ap (λ (x : List ℕ). number_low (take 8 x)) marks ∙ ap number_low (take_at (bytes_low 8 c) (bytes_low 8 d) 8 (bytes_sized 8 c).long) ∙ number c l

  pub entry_reissue : d < 2 ^ 64 → reissue_of (entry_of u c d) ≡ d
  entry_reissue l =
      ap (λ (x : List ℕ). number_low (take 8 x)) (sym (drop-drop 8 16 (entry_of u c d)) ∙ ap (drop 8) marks ∙ drop_at (bytes_low 8 c) (bytes_low 8 d) 8 (bytes_sized 8 c).long)
      ∙ ap number_low (take_all 8 (bytes_low 8 d) (omega (arith, (bytes_sized 8 d).long))) ∙ number d l

-- the same entries, the same state: entry by entry from the front
entries_same : (n : ℕ) (x y : List ℕ) → length x ≡ 32 * n → length y ≡ 32 * n → ((k : ℕ) → k < n → entry_at x k ≡ entry_at y k) → x ≡ y
entries_same zero [] [] h l f = refl
entries_same zero (a ∷ x) y h l f = absurd (omega arith)
entries_same zero [] (b ∷ y) h l f = absurd (omega arith)
entries_same (suc n) x y h l f =
    sym (take-append-drop 32 x)
    ∙ ap₂ ◌++◌ (f 0 (omega arith)) (entries_same n (drop 32 x) (drop 32 y) (rest x h) (rest y l) (λ k g. next x k ∙ f (suc k) (omega arith) ∙ sym (next y k)))
    ∙ take-append-drop 32 y
  where
    rest : (z : List ℕ) → length z ≡ 32 * suc n → length (drop 32 z) ≡ 32 * n
    rest z g = length-drop 32 z ∙ omega arith

    next : (z : List ℕ) (k : ℕ) → entry_at (drop 32 z) k ≡ entry_at z (suc k)
    next z k = let q : 32 + 32 * k ≡ 32 * suc k = omega arith in ap (take 32) (drop-drop (32 * k) 32 z ∙ ap (λ (i : ℕ). drop i z) q)

pub state_same : (x y : List ℕ) → length x ≡ 131072 → length y ≡ 131072 → ((k : ℕ) → k < 4096 → entry_at x k ≡ entry_at y k) → x ≡ y
state_same x y h l f = entries_same 4096 x y h l f

-- an entry put where it stands, over another, and beside another
module _ (s : List ℕ) (h : length s ≡ 131072) (i : ℕ) (l : i < 4096) where
  pub put_self : put s i (entry_at s i) ≡ s
  put_self =
      let m = entry_long s i h l in
      state_same (put s i (entry_at s i)) s (put_long s i (entry_at s i) h l m) h
      (λ k g. ⊎_elim (λ e. ap (entry_at (put s i (entry_at s i))) e ∙ put_here s i (entry_at s i) h l m ∙ ap (entry_at s) (sym e)) (λ n. put_there s i (entry_at s i) h l m k n) (eq_or_ne k i))

  pub put_as_is : (e : List ℕ) → entry_at s i ≡ e → s ≡ put s i e
  put_as_is e q = sym put_self ∙ ap (put s i) q

  module _ (a b : List ℕ) (m : length a ≡ 32) (n : length b ≡ 32) where
    pub put_again : put (put s i a) i b ≡ put s i b
    put_again =
        let g = put_long s i a h l m in
        state_same (put (put s i a) i b) (put s i b) (put_long (put s i a) i b g l n) (put_long s i b h l n)
        (λ k _. ⊎_elim
        (λ e. ap (entry_at (put (put s i a) i b)) e ∙ put_here (put s i a) i b g l n ∙ sym (put_here s i b h l n) ∙ ap (entry_at (put s i b)) (sym e))
        (λ d. put_there (put s i a) i b g l n k d ∙ put_there s i a h l m k d ∙ sym (put_there s i b h l n k d))
        (eq_or_ne k i))

    pub put_swap : (j : ℕ) → j < 4096 → (j ≡ i → ⊥) → put (put s i a) j b ≡ put (put s j b) i a
    put_swap j o d =
        let g = put_long s i a h l m in
        let f = put_long s j b h o n in
        state_same (put (put s i a) j b) (put (put s j b) i a) (put_long (put s i a) j b g o n) (put_long (put s j b) i a f l m)
        (λ k _. ⊎_elim
        (λ e. ap (entry_at (put (put s i a) j b)) e ∙ put_here (put s i a) j b g o n ∙ sym (put_there (put s j b) i a f l m j d ∙ put_here s j b h o n) ∙ ap (entry_at (put (put s j b) i a)) (sym e))
        (λ q. put_there (put s i a) j b g o n k q ∙ ⊎_elim
        (λ e. ap (entry_at (put s i a)) e ∙ put_here s i a h l m ∙ sym (put_here (put s j b) i a f l m) ∙ ap (entry_at (put (put s j b) i a)) (sym e))
        (λ r. put_there s i a h l m k r ∙ sym (put_there (put s j b) i a f l m k r ∙ put_there s j b h o n k q))
        (eq_or_ne k i))
        (eq_or_ne k j))
