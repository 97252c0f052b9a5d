-- Numbers stored one behind the other: where each stands, and that a loop that lays one after the other stores them all. By recursion on the list.
use mathlib.Core.Path.{◌≡◌, refl, sym, ap, ap₂, ◌∙◌}
use mathlib.Core.List.{List, [], ◌∷◌, ◌++◌, append_assoc, append-nil}
use Prim.Native.Nat.{ℕ, zero, suc, ◌+◌, ◌-◌, ◌*◌, ◌<◌, ◌≤◌}
use native.Mathlib.Omega.{arith}
use native.Mathlib.Numerals.{add-one}
use borrow.Rule.Slice.PartMut.{put_mid}
use lib.ListN.{length, get_or, take, drop, length-append, drop_of_length-le}
use lib.Seq.{take_all, take_at, drop_at, drop-drop, length-take-le}
use Rattle.words.specs.Numbers.{bytes_low}
use Rattle.words.proofs.NumberLaws.{bytes_sized}
use Rattle.words.proofs.SliceLaws.{put_next}
use Rattle.talcfeather.specs.Numbers.{in_bytes}

pub stored_length : (l : List ℕ) → length (in_bytes l) ≡ 8 * length l
unfolding in_bytes
stored_length [] = refl
stored_length (x ∷ l) = rw length-append (omega (arith, (bytes_sized 8 x).long, stored_length l))

-- the number i stands in the bytes from 8 i on
pub number_at : (l : List ℕ) (i : ℕ) → i < length l → take 8 (drop (8 * i) (in_bytes l)) ≡ bytes_low 8 (get_or l i 0)
unfolding in_bytes
number_at [] i h = absurd (omega arith)
number_at (x ∷ l) zero h = take_at (bytes_low 8 x) (in_bytes l) 8 (bytes_sized 8 x).long
number_at (x ∷ l) (suc i) h =
    let e : 8 * suc i ≡ 8 + 8 * i = omega arith in
    ap (λ (n : ℕ). take 8 (drop n (bytes_low 8 x ++ in_bytes l))) e
    ∙ ap (take 8) (sym (drop-drop (8 * i) 8 (bytes_low 8 x ++ in_bytes l)) ∙ ap (drop (8 * i)) (drop_at (bytes_low 8 x) (in_bytes l) 8 (bytes_sized 8 x).long))
    ∙ number_at l i (omega arith)

-- the first numbers and one more
one_more : (l : List ℕ) (i : ℕ) → i < length l → in_bytes (take (suc i) l) ≡ in_bytes (take i l) ++ bytes_low 8 (get_or l i 0)
unfolding in_bytes
one_more [] i h = absurd (omega arith)
one_more (x ∷ l) zero h = append-nil (bytes_low 8 x)
one_more (x ∷ l) (suc i) h =
    ap (λ (s : List ℕ). bytes_low 8 x ++ s) (one_more l i (omega arith)) ∙ sym (append_assoc (bytes_low 8 x) (in_bytes (take i l)) (bytes_low 8 (get_or l i 0)))

-- the loop that stores them one by one: the first numbers stand in front, and behind them is what was there
abbrev pub Stored : (l m : List ℕ) (i : ℕ) → List ℕ → Type 0
Stored l m i s = s ≡ in_bytes (take i l) ++ drop (8 * i) m

pub stored_none : (l m : List ℕ) → Stored l m 0 m
unfolding in_bytes
stored_none l m = refl

pub stored_next : (l m : List ℕ) (i : ℕ) {before new : List ℕ} → i < length l → Stored l m i before → new ≡ bytes_low 8 (get_or l i 0)
    → Stored l m (i + 1) (put_mid (8 * i) (8 * i + 8 - 8 * i) before new)
stored_next l m i {new = new} h e n =
    let k : 8 * i + 8 - 8 * i ≡ 8 = omega arith in
    let j : 8 * i + 8 ≡ 8 * (i + 1) = omega arith in
    let long : length (in_bytes (take i l)) ≡ 8 * i = stored_length (take i l) ∙ ap (λ (j : ℕ). 8 * j) (length-take-le i l (omega arith)) in
    ap₂ (λ (w : ℕ) (b : List ℕ). put_mid (8 * i) w b new) k e
    ∙ put_next (in_bytes (take i l)) (bytes_low 8 (get_or l i 0)) (drop (8 * i) m) new (8 * i) 8 long n
    ∙ ap₂ (λ (a b : List ℕ). a ++ b) (sym (one_more l i h) ∙ ap (λ (t : ℕ). in_bytes (take t l)) (sym (add-one i))) (drop-drop 8 (8 * i) m ∙ ap (λ (t : ℕ). drop t m) j)

pub stored_all : (l m : List ℕ) (i : ℕ) {s : List ℕ} → length m ≡ 8 * length l → length l ≤ i → Stored l m i s → s ≡ in_bytes l
stored_all l m i h k e =
    let d : drop (8 * i) m ≡ [] = drop_of_length-le m {i = 8 * i} (omega arith) in
    e ∙ ap₂ (λ (a b : List ℕ). in_bytes a ++ b) (take_all i l k) d ∙ append-nil (in_bytes l)
