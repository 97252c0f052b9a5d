-- The length of a padded message, in blocks, and each byte of its padding: by its three parts, one after the other.
use Rattle.std.proofs.Common.{◌≡◌, ℕ, zero, suc, ◌+◌, ◌-◌, ◌*◌, ◌/◌, ◌<◌, ◌≤◌, List, ◌++◌, length, get_or, replicate, refl, ap, ◌∙◌, arith, length-append, get_or-append-add}
use lib.ListN.{length-replicate, get_or-replicate, get_or-append}
use Rattle.words.specs.Numbers.{bytes_high}
use Rattle.words.proofs.NumberLaws.{bytes_high_sized}
use Rattle.sha256.specs.Sha256.{zeros_after, padding, padded}

pub length_padding : (n : ℕ) → length (padding n) ≡ 1 + zeros_after n + 8
unfolding padding
length_padding n = let z = (bytes_high_sized 8 (8 * n)).long in simp (length-append, length-replicate) (omega arith)

pub length_padded : (m : List ℕ) → length (padded m) ≡ length m + (1 + zeros_after (length m) + 8)
length_padded m = length-append m (padding (length m)) ∙ ap (λ (k : ℕ). length m + k) (length_padding (length m))

pub blocks_are : (m : List ℕ) → length (padded m) / 64 ≡ (length m + 8) / 64 + 1
blocks_are m = let l = length_padded m in omega arith

pub whole_blocks_lem : (m : List ℕ) → length (padded m) ≡ 64 * ((length m + 8) / 64 + 1)
whole_blocks_lem m = let l = length_padded m in omega arith

pub padding_zero : (n k : ℕ) → 0 < k → k ≤ zeros_after n → get_or (padding n) k 0 ≡ 0
unfolding padding
padding_zero n zero h l = absurd (omega arith)
padding_zero n (suc k) h l =
    get_or-append (replicate (zeros_after n) 0) (bytes_high 8 (8 * n)) 0 k (rw length-replicate (omega arith)) ∙ get_or-replicate (zeros_after n) k 0 0 (omega arith)

-- behind the zeros, the length
pub padding_rest : (n k : ℕ) → zeros_after n < k → get_or (padding n) k 0 ≡ get_or (bytes_high 8 (8 * n)) (k - zeros_after n - 1) 0
unfolding padding
padding_rest n zero h = absurd (omega arith)
padding_rest n (suc k) h =
    let z = length-replicate {A = ℕ} (zeros_after n) 0 in
    let e : k ≡ length {A = ℕ} (replicate (zeros_after n) 0) + (suc k - zeros_after n - 1) = omega arith in
    ap (λ (j : ℕ). get_or (replicate (zeros_after n) 0 ++ bytes_high 8 (8 * n)) j 0) e
    ∙ get_or-append-add (replicate (zeros_after n) 0) (bytes_high 8 (8 * n)) (suc k - zeros_after n - 1) 0

pub padding_first : (n : ℕ) → get_or (padding n) 0 0 ≡ 128
unfolding padding
padding_first n = refl
