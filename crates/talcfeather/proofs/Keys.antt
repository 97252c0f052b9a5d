-- K and L, and the numbers behind them, each written into its part of an answer, are the answer: the lengths of the parts say where each one goes.
use Prim.Native.Nat.{ℕ, ◌-◌}
use mathlib.Core.Path.{◌≡◌, ap, ap₂, ◌∙◌}
use mathlib.Core.List.{List, [], ◌++◌, append_assoc, append-nil}
use native.Mathlib.Omega.{arith}
use borrow.Rule.Slice.PartMut.{put_mid, post_of}
use lib.ListN.{length, take, drop, length-append, length-drop, drop_of_length-le}
use lib.Seq.{take_at}
use Rattle.words.proofs.SliceLaws.{put_next}

-- the halves of the first 64 bytes
pub two_halves : (a k l x y : List ℕ) → length a ≡ 64 → length k ≡ 32 → x ≡ k → y ≡ l
    → put_mid 32 (length (x ++ drop 32 a) - 32) (x ++ drop 32 a) y ≡ k ++ l
two_halves a k l x y ha hk p q =
    let d = drop 32 a in
    let n : length (k ++ d) - 32 ≡ 32 = simp (length-append, length-drop) (omega arith) in
    let rest : drop 32 d ≡ [] = drop_of_length-le d {i = 32} (simp length-drop (omega arith)) in
    ap (λ (g : List ℕ). put_mid 32 (length (g ++ d) - 32) (g ++ d) y) p
    ∙ ap (λ (m : ℕ). put_mid 32 m (k ++ d) y) n
    ∙ put_next k l d y 32 32 hk q
    ∙ ap (λ (g : List ℕ). (k ++ l) ++ g) rest
    ∙ append-nil (k ++ l)

-- the numbers behind them, to the end
pub keys_then : (a k l s x z : List ℕ) → length a ≡ 96 → length x ≡ 64 → x ≡ k ++ l → z ≡ s
    → take 64 (x ++ post_of 0 64 a) ++ (z ++ post_of 64 32 (x ++ post_of 0 64 a)) ≡ k ++ (l ++ s)
keys_then a k l s x z ha hx p q =
    let rest : post_of 64 32 (x ++ post_of 0 64 a) ≡ [] = drop_of_length-le (drop 64 (x ++ drop 64 a)) {i = 32} (simp (length-drop, length-append) (omega arith)) in
    ap₂ (λ (g h : List ℕ). g ++ (z ++ h)) (take_at x (post_of 0 64 a) 64 hx) rest
    ∙ ap (λ (g : List ℕ). x ++ g) (append-nil z)
    ∙ ap₂ (λ (g h : List ℕ). g ++ h) p q
    ∙ append_assoc k l s
