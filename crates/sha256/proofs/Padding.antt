-- The padding, taken in as two more pieces, ends the hash: the running state after the padded message is its hash value.
use Rattle.std.proofs.Common.{◌≡◌, ℕ, suc, ◌+◌, ◌-◌, ◌*◌, ◌%◌, ◌^◌, ◌≤◌, List, [], ◌∷◌, ◌++◌, length, take, set, replicate, sym, ap, ◌∙◌, ap₂, append_assoc, arith, length-take-le, take_at}
use lib.ListN.{length-replicate, replicate-append-replicate}
use Rattle.words.specs.Numbers.{bytes_high}
use Rattle.words.proofs.NumberLaws.{bytes_mod_high}
use Rattle.sha256.specs.Sha256.{zeros_after, padding, hash_of}
use Rattle.sha256.specs.declared.hash.Running.{Running}
use Rattle.sha256.specs.Running.{running_of, Takes}
use Rattle.sha256.proofs.Pieces.{len_is}

-- the eight bytes of the number of bits
length_bits : (n l : ℕ) → n ≡ l % 2 ^ 64 → bytes_high 8 (n * 8 % 2 ^ 64) ≡ bytes_high 8 (8 * l)
length_bits n l h =
    let e : n * 8 % 2 ^ 64 ≡ 8 * l % 2 ^ 64 = omega arith in
    ap (bytes_high 8) e ∙ bytes_mod_high 8 (8 * l)

-- a one bit, and z zeros
abbrev mark : ℕ → List ℕ
mark z = take (1 + z) (set (replicate 64 0) 0 128)

marked : (z : ℕ) → z ≤ 63 → mark z ≡ 128 ∷ replicate z 0
marked z h =
    let e : 1 + z ≡ suc z = omega arith in
    let f : 63 ≡ z + (63 - z) = omega arith in
    rw e
    (ap (λ (l : List ℕ). 128 ∷ l)
    (ap (λ (k : ℕ). take {A = ℕ} z (replicate k 0)) f ∙ ap (take {A = ℕ} z) (sym (replicate-append-replicate z (63 - z) 0)) ∙ take_at (replicate z 0) (replicate (63 - z) 0) z (length-replicate z 0)))

pub marks : (n : ℕ) → 1 + zeros_after n ≡ length (mark (zeros_after n))
marks n = sym (length-take-le (1 + zeros_after n) (set (replicate 64 0) 0 128) (omega arith))

pub ended : (m l : List ℕ) {st a b : Running} → st ≡ running_of m → l ≡ bytes_high 8 (st.len * 8 % 2 ^ 64) → Takes st (mark (zeros_after st.len)) a → Takes a l b → b.v ≡ hash_of m
unfolding hash_of running_of padding
ended m l {st} {a} {b} e k f g =
    let n : st.len ≡ length m % 2 ^ 64 = len_is m [] e in
    let z : zeros_after st.len ≡ zeros_after (length m) = omega arith in
    let p : mark (zeros_after st.len) ≡ 128 ∷ replicate (zeros_after (length m)) 0 = ap mark z ∙ marked (zeros_after (length m)) (omega arith) in
    ap (λ (s : Running). s.v) (g _ (f m e) ∙ ap running_of (append_assoc m _ l ∙ ap₂ (λ (x y : List ℕ). m ++ (x ++ y)) p (k ∙ length_bits st.len (length m) n)))
