-- The schedule as it grows in an array of 64 words, and the rounds as they are taken eight at a time: by what is left of each.
use Rattle.std.proofs.Common.{◌≡◌, ℕ, zero, suc, ◌+◌, ◌-◌, ◌*◌, ◌<◌, ◌≤◌, List, [], ◌∷◌, ◌++◌, length, take, drop, set, slice_index, refl, sym, ap, ◌∙◌, arith, length-append, length-drop, length-take-le, get_or-take, take_all, add-one}
use Rattle.std.proofs.Math.Seq.{take-suc-set}
use Rattle.std.specs.List.{fold, zip}
use Rattle.std.specs.Simd.{first_chunks}
use Rattle.sha256.specs.Sha256.{plus, Sigma0, Sigma1, following, back, extended, schedule_of, round_of, rounds_of}

abbrev word_after : List ℕ → ℕ → ℕ
word_after w t = plus (plus (plus (Sigma1 (slice_index w (t - 2))) (slice_index w (t - 7))) (Sigma0 (slice_index w (t - 15)))) (slice_index w (t - 16))

following_of : (w : List ℕ) (t : ℕ) → 16 ≤ t → t ≤ length w → following (take t w) ≡ word_after w t
unfolding following back
following_of w t h l =
    rw length-take-le
    (rw (get_or-take t w (t - 2) 0 (omega arith), get_or-take t w (t - 7) 0 (omega arith), get_or-take t w (t - 15) 0 (omega arith), get_or-take t w (t - 16) 0 (omega arith)) refl)

-- a word before the rest is not looked at
back_past : (a : ℕ) (w : List ℕ) (i : ℕ) → 1 ≤ i → i ≤ length w → back (a ∷ w) i ≡ back w i
unfolding back
back_past a w i h k =
    let e : suc (length w) - i ≡ suc (length w - i) = omega arith in
    ap (λ (n : ℕ). slice_index (a ∷ w) n) e

following_past : (a : ℕ) (w : List ℕ) → 16 ≤ length w → following (a ∷ w) ≡ following w
unfolding following
following_past a w h =
    cc (back_past a w 2 (omega arith) (omega arith), back_past a w 7 (omega arith) (omega arith), back_past a w 15 (omega arith) (omega arith), back_past a w 16 (omega arith) (omega arith))

pub extended_past : (n a : ℕ) (w : List ℕ) → 16 ≤ length w → extended n (a ∷ w) ≡ a ∷ extended n w
unfolding extended
extended_past zero a w h = refl
extended_past (suc n) a w h =
    ap (λ (x : ℕ). extended n (a ∷ (w ++ (x ∷ [])))) (following_past a w h)
    ∙ extended_past n a (w ++ (following w ∷ [])) (simp length-append (omega arith))

pub one_more : (w m : List ℕ) (t x : ℕ) → 16 ≤ t → t < 64 → length w ≡ 64 → extended (64 - t) (take t w) ≡ schedule_of m
    → x ≡ word_after w t → extended (64 - (t + 1)) (take (t + 1) (set w t x)) ≡ schedule_of m
unfolding extended
one_more w m t x h k l e f =
    let n : 64 - t ≡ suc (64 - (t + 1)) = omega arith in
    let a : t < length w = omega arith in
    let s : take (t + 1) (set w t x) ≡ take t w ++ (following (take t w) ∷ []) =
    rw (add-one, take-suc-set, f, following_of w t h (omega arith)) refl in
    ap (extended (64 - (t + 1))) s ∙ (rw n at e)

pub all_words : (w m : List ℕ) (t : ℕ) → t ≡ 64 → length w ≡ 64 → extended (64 - t) (take t w) ≡ schedule_of m → w ≡ schedule_of m
unfolding extended
all_words w m t h l e = sym (take_all 64 w (omega arith)) ∙ (rw h at e)

-- ---- the rounds

zip_none : (k : List ℕ) → zip {X = ℕ} k [] ≡ []
zip_none [] = refl
zip_none (a ∷ k) = refl

-- n rounds, and then those that are left
cut : (n : ℕ) (k w v : List ℕ) → rounds_of (drop n k) (drop n w) (rounds_of (take n k) (take n w) v) ≡ rounds_of k w v
unfolding rounds_of
cut zero k w v = refl
cut (suc n) [] w v = refl
cut (suc n) (a ∷ k) [] v = rw (zip_none (drop n k)) refl
cut (suc n) (a ∷ k) (b ∷ w) v = cut n k w (round_of v a b)

pub eights : (n : ℕ) (k w v : List ℕ) → length k ≡ 8 * n
    → fold (λ v p. rounds_of p.0 p.1 v) v (zip (first_chunks 8 n k) (first_chunks 8 n w)) ≡ rounds_of k w v
unfolding rounds_of
eights zero [] w v h = refl
eights zero (a ∷ k) w v h = absurd (omega arith)
eights (suc n) k w v h =
    eights n (drop 8 k) (drop 8 w) (rounds_of (take 8 k) (take 8 w) v) (omega (arith, length-drop 8 k)) ∙ cut 8 k w v
