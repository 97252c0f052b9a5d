-- A part of a memory, lent and stored over: the memory is cut before it and after it, and both cuts are found again.
use Rattle.std.proofs.Common.{◌≡◌, ℕ, ◌+◌, ◌-◌, ◌≤◌, List, ◌++◌, length, take, drop, sym, refl, ap, ◌∙◌, ap₂, append_assoc, arith, length-append, length-drop, length-take, take_all, drop-drop, take_at, drop_at}

-- the s bytes from i on, as the code lends them, and the memory with v in their place
abbrev pub part : List ℕ → ℕ → ℕ → List ℕ
part l i s = take (i + s - i) (drop i l)

abbrev pub around : List ℕ → ℕ → ℕ → List ℕ → List ℕ
around l i s v = take i l ++ (v ++ drop (i + s - i) (drop i l))

width : (i s : ℕ) → i + s - i ≡ s
width i s = omega arith

pub part_is : (l : List ℕ) (i s : ℕ) → part l i s ≡ take s (drop i l)
part_is l i s = ap (λ (n : ℕ). take n (drop i l)) (width i s)

pub part_long : (l : List ℕ) (i s : ℕ) → i + s ≤ length l → length (part l i s) ≡ s
part_long l i s h = ap length (part_is l i s) ∙ simp (length-take, length-drop) (omega arith)

-- v, as long as the part, in its place; the memory then goes on from j
module _ (l : List ℕ) (i s j : ℕ) (v : List ℕ) (next : i + s ≡ j) (fits : j ≤ length l) (h : length v ≡ s) where
  split : around l i s v ≡ (take i l ++ v) ++ drop j l
  split =
      ap (λ (n : ℕ). take i l ++ (v ++ drop n (drop i l))) (width i s)
      ∙ ap (λ (y : List ℕ). take i l ++ (v ++ y)) (drop-drop s i l ∙ ap (λ (n : ℕ). drop n l) next)
      ∙ sym (append_assoc (take i l) v (drop j l))

  long : length (take i l ++ v) ≡ j
  long = simp (length-append, length-take) (omega arith)

  pub around_take : take j (around l i s v) ≡ take i l ++ v
  around_take = ap (take j) split ∙ take_at (take i l ++ v) (drop j l) j long

  pub around_drop : drop j (around l i s v) ≡ drop j l
  around_drop = ap (drop j) split ∙ drop_at (take i l ++ v) (drop j l) j long

  pub around_length : length (around l i s v) ≡ length l
  around_length = ap length split ∙ simp (length-append, length-take, length-drop) (omega arith)

-- three blocks stored one after the other fill 48 bytes
pub three_stored : (l x y z : List ℕ) {u v w : List ℕ} → length l ≡ 48 → length x ≡ 16 → length y ≡ 16 → length z ≡ 16
    → u ≡ x → v ≡ y → w ≡ z
    → around (around (around l 0 16 u) 16 16 v) 32 16 w ≡ x ++ (y ++ z)
three_stored l x y z {u} {v} {w} hl hx hy hz pu pv pw =
    let l1 = around l 0 16 u in
    let l2 = around l1 16 16 v in
    let hu : length u ≡ 16 = ap length pu ∙ hx in
    let h1 : length l1 ≡ 48 = around_length l 0 16 16 u refl (omega arith) hu ∙ hl in
    let hv : length v ≡ 16 = ap length pv ∙ hy in
    let h2 : length l2 ≡ 48 = around_length l1 16 16 32 v refl (omega arith) hv ∙ h1 in
    let hw : length w ≡ 16 = ap length pw ∙ hz in
    let h3 = around_length l2 32 16 48 w refl (omega arith) hw ∙ h2 in
    sym (take_all 48 (around l2 32 16 w) (omega (arith, h3)))
    ∙ around_take l2 32 16 48 w refl (omega arith) hw
    ∙ ap (λ (t : List ℕ). t ++ w) (around_take l1 16 16 32 v refl (omega arith) hv)
    ∙ ap (λ (t : List ℕ). (t ++ v) ++ w) (around_take l 0 16 16 u refl (omega arith) hu)
    ∙ append_assoc u v w
    ∙ ap₂ ◌++◌ pu (ap₂ ◌++◌ pv pw)
