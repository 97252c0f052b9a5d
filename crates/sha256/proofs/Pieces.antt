-- The three ways that a piece is taken into a running hash: it leaves the block open, it ends it, or it follows whole blocks. Each by what the hash value after so many blocks does not look at.
use Rattle.std.proofs.Common.{◌≡◌, ℕ, zero, suc, ◌+◌, ◌-◌, ◌*◌, ◌/◌, ◌%◌, ◌^◌, ◌<◌, ◌≤◌, List, [], ◌∷◌, ◌++◌, length, take, drop, replicate, sym, refl, ap, ◌∙◌, ap₂, append_assoc, add-zero, add-one, arith, length-append, length-drop, drop_of_length-le, take_all, get_or-take}
use lib.ListN.{get_or-append}
use lib.Seq.{take-append_seam, drop-append-add, drop-append-le, drop-drop}
use Rattle.std.proofs.lemmas.List.{drop-take}
use Rattle.words.specs.Slices.{zeros, copied}
use Rattle.words.proofs.ByteLaws.{drop_same}
use Rattle.sha256.specs.Sha256.{word_of, words_of, compress_of, hash_value}
use Rattle.sha256.specs.declared.hash.Running.{Running}
use Rattle.sha256.specs.Running.{left, tail_of, running_of, folds_of}

-- ---- the words of a list are those of its front

word_front : (a b : List ℕ) → 4 ≤ length a → word_of (a ++ b) ≡ word_of a
unfolding word_of
word_front a b h =
    cc (get_or-append a b 0 0 (omega arith), get_or-append a b 0 1 (omega arith), get_or-append a b 0 2 (omega arith), get_or-append a b 0 3 (omega arith))

pub words_front : (n : ℕ) (a b : List ℕ) → 4 * n ≤ length a → words_of n (a ++ b) ≡ words_of n a
unfolding words_of
words_front zero a b h = refl
words_front (suc n) a b h =
    let l : length (drop 4 a) ≡ length a - 4 = length-drop 4 a in
    let k : 4 ≤ length a = omega arith in
    rw drop-append-le (ap₂ ◌∷◌ (word_front a b k) (words_front n (drop 4 a) b (omega arith)))

word_taken : (n : ℕ) (l : List ℕ) → 4 ≤ n → word_of (take n l) ≡ word_of l
unfolding word_of
word_taken n l h =
    cc (get_or-take n l 0 0 (omega arith), get_or-take n l 1 0 (omega arith), get_or-take n l 2 0 (omega arith), get_or-take n l 3 0 (omega arith))

words_taken : (n : ℕ) (l : List ℕ) → words_of n (take (4 * n) l) ≡ words_of n l
unfolding words_of
words_taken zero l = refl
words_taken (suc n) l =
    let e : 4 * suc n ≡ 4 + 4 * n = omega arith in
    ap₂ ◌∷◌ (word_taken (4 * suc n) l (omega arith)) (ap (words_of n) (ap (λ (x : ℕ). drop 4 (take x l)) e ∙ drop-take 4 (4 * n) l) ∙ words_taken n (drop 4 l))

-- ---- the blocks of a message, and of what follows it

front : (m d : List ℕ) (n : ℕ) → n * 64 ≤ length m → hash_value (m ++ d) n ≡ hash_value m n
unfolding hash_value
front m d zero h = refl
front m d (suc n) h =
    let l : length (drop (64 * n) m) ≡ length m - 64 * n = length-drop (64 * n) m in
    let k : 64 * n ≤ length m = omega arith in
    ap₂ compress_of (front m d n (omega arith)) (ap (words_of 16) (drop-append-le (64 * n) m d k) ∙ words_front 16 (drop (64 * n) m) d (omega arith))

-- one block more, which need not begin within m
next : (l : List ℕ) (n : ℕ) → hash_value l (n + 1) ≡ compress_of (hash_value l n) (words_of 16 (drop (n * 64) l))
unfolding hash_value
next l n =
    let e : 64 * n ≡ n * 64 = omega arith in
    rw (add-one, e) refl

-- one block more, taken into a hash value: of a list that may end before it
folds_next : (n : ℕ) (v d : List ℕ) → folds_of v d (suc n) ≡ compress_of (folds_of v d n) (words_of 16 (drop (n * 64) d))
unfolding folds_of
folds_next zero v d = ap (compress_of v) (words_taken 16 d)
folds_next (suc n) v d =
    let e : 64 + n * 64 ≡ suc n * 64 = omega arith in
    let w : List ℕ = compress_of v (words_of 16 (take 64 d)) in
    folds_next n w (drop 64 d) ∙ ap (λ (x : List ℕ). compress_of (folds_of w (drop 64 d) n) (words_of 16 x)) (drop-drop (n * 64) 64 d ∙ ap (λ (x : ℕ). drop x d) e)

beyond : (m d : List ℕ) (p n : ℕ) → length m ≡ p * 64 → hash_value (m ++ d) (p + n) ≡ folds_of (hash_value m p) d n
unfolding folds_of
beyond m d p zero h = rw add-zero (front m d p (omega arith))
beyond m d p (suc n) h =
    let e : p + suc n ≡ p + n + 1 = omega arith in
    let f : (p + n) * 64 ≡ length m + n * 64 = omega arith in
    ap (λ (x : ℕ). hash_value (m ++ d) x) e ∙ next (m ++ d) (p + n)
    ∙ ap₂ compress_of (beyond m d p n h) (ap (words_of 16) (ap (λ (x : ℕ). drop x (m ++ d)) f ∙ drop-append-add m d (n * 64)))
    ∙ sym (folds_next n (hash_value m p) d)

-- ---- what is left after the whole blocks

pub length_left : (m : List ℕ) → length (left m) ≡ length m % 64
length_left m = length-drop (length m / 64 * 64) m ∙ omega arith

-- t over zeros
pub over_zeros : (t : List ℕ) → length t ≤ 64 → copied (zeros 64) t ≡ tail_of t
over_zeros t h = ap₂ ◌++◌ (take_all 64 t h) (drop_same 0 (length t) 64 h)

pasted : (t d : List ℕ) → length t + length d ≤ 64 → take (length t) (tail_of t) ++ (d ++ drop (length t + length d) (tail_of t)) ≡ tail_of (t ++ d)
pasted t d h =
    let z : List ℕ = replicate (64 - length t) 0 in
    let r : List ℕ = replicate (64 - length t - length d) 0 in
    let e : 64 - length t - length d ≡ 64 - length (t ++ d) = rw length-append (omega arith) in
    let f : drop (length t + length d) (t ++ z) ≡ r = drop-append-add t z (length d) ∙ drop_same 0 (length d) (64 - length t) (omega arith) in
    ap₂ (λ (x y : List ℕ). x ++ (d ++ y)) (take-append_seam t z) f ∙ sym (append_assoc t d r) ∙ ap (λ (n : ℕ). (t ++ d) ++ replicate n 0) e

-- ---- the three ways on

abbrev pub state : List ℕ → ℕ → List ℕ → Running
state v n t = record { v = v; len = n; tail = t }

pub same : {v w : List ℕ} {a b : ℕ} {t u : List ℕ} → v ≡ w → a ≡ b → t ≡ u → state v a t ≡ state w b u
same p q r = cc

-- d written behind the bytes of a tail
abbrev pub behind : ℕ → List ℕ → List ℕ → List ℕ
behind k t d = take k t ++ (d ++ drop (k + length d) t)

module _ (m d : List ℕ) where
  stays : length m % 64 + length d ≤ 64 → drop (length m / 64 * 64) (m ++ d) ≡ left m ++ d
  stays h = drop-append-le (length m / 64 * 64) m d (omega arith)

  counts : {a b : ℕ} → a ≡ length m % 2 ^ 64 → b ≡ (a + length d) % 2 ^ 64 → b ≡ length (m ++ d) % 2 ^ 64
  counts p q = rw length-append (omega arith)

  module _ {st : Running} (e : st ≡ running_of m) where
    v_is : st.v ≡ hash_value m (length m / 64)
    unfolding running_of
    v_is = ap (λ (x : Running). x.v) e

    pub len_is : st.len ≡ length m % 2 ^ 64
    unfolding running_of
    len_is = ap (λ (x : Running). x.len) e

    tail_is : st.tail ≡ tail_of (left m)
    unfolding running_of
    tail_is = ap (λ (x : Running). x.tail) e

    place : st.len % 64 ≡ length m % 64
    place = let l = len_is in omega arith

    filled : st.len % 64 + length d ≤ 64 → behind (st.len % 64) st.tail d ≡ tail_of (left m ++ d)
    filled h =
        let p = place in
        let k = length_left m in
        let i : st.len % 64 ≡ length (left m) = omega arith in
        ap₂ (λ (i : ℕ) (t : List ℕ). behind i t d) i tail_is ∙ pasted (left m) d (omega arith)

    -- d leaves the block unfinished
    pub within : {n : ℕ} → st.len % 64 + length d < 64 → n ≡ (st.len + length d) % 2 ^ 64 → state st.v n (behind (st.len % 64) st.tail d) ≡ running_of (m ++ d)
    unfolding running_of
    within h c =
        let p = place in
        let q : length (m ++ d) / 64 ≡ length m / 64 = rw length-append (omega arith) in
        rw q
        (same (v_is ∙ (sym (front m d (length m / 64) (omega arith)))) (counts len_is c)
        (filled (omega arith) ∙ ap tail_of (sym (stays (omega arith)))))

    -- d finishes it
    pub finishes : {n : ℕ} {w : List ℕ} → st.len % 64 + length d ≡ 64 → n ≡ (st.len + length d) % 2 ^ 64
        → w ≡ compress_of st.v (words_of 16 (behind (st.len % 64) st.tail d)) → state w n (replicate 64 0) ≡ running_of (m ++ d)
    unfolding running_of
    finishes h c g =
        let p = place in
        let k = length_left m in
        let la = length-append (left m) d in
        let lb = length-append m d in
        let q : length (m ++ d) / 64 ≡ length m / 64 + 1 = omega arith in
        let z : left (m ++ d) ≡ [] = drop_of_length-le (m ++ d) {i = length (m ++ d) / 64 * 64} (omega arith) in
        let b : words_of 16 (drop (length m / 64 * 64) (m ++ d)) ≡ words_of 16 (behind (st.len % 64) st.tail d) =
        ap (words_of 16) (stays (omega arith)) ∙ sym (words_front 16 (left m ++ d) (replicate (64 - length (left m ++ d)) 0) (omega arith)) ∙ ap (words_of 16) (sym (filled (omega arith))) in
        same
        (g ∙ ap₂ compress_of (v_is ∙ (sym (front m d (length m / 64) (omega arith)))) (sym b) ∙ sym (next (m ++ d) (length m / 64)) ∙ ap (λ (x : ℕ). hash_value (m ++ d) x) (sym q))
        (counts len_is c)
        (ap tail_of (sym z))

    -- d follows whole blocks
    pub follows : {n : ℕ} {t w : List ℕ} → st.len % 64 ≡ 0 → n ≡ (st.len + length d) % 2 ^ 64
        → w ≡ folds_of st.v d (length d / 64) → t ≡ copied (zeros 64) (left d) → state w n t ≡ running_of (m ++ d)
    unfolding running_of
    follows h c g u =
        let p = place in
        let lb = length-append m d in
        let ll = length_left d in
        let q : length (m ++ d) / 64 ≡ length m / 64 + length d / 64 = omega arith in
        let i : length (m ++ d) / 64 * 64 ≡ length m + length d / 64 * 64 = omega arith in
        let l : left (m ++ d) ≡ left d = rw i (drop-append-add m d (length d / 64 * 64)) in
        same
        (g ∙ ap (λ (x : List ℕ). folds_of x d (length d / 64)) v_is ∙ sym (beyond m d (length m / 64) (length d / 64) (omega arith)) ∙ ap (λ (x : ℕ). hash_value (m ++ d) x) (sym q))
        (counts len_is c)
        (u ∙ over_zeros (left d) (omega arith) ∙ ap tail_of (sym l))
