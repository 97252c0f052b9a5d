-- The bytes of a padded message of two parts, one block of them, and the blocks as far as they are taken in: by where each byte's index falls.
use Rattle.std.proofs.Common.{◌≡◌, ℕ, ◌+◌, ◌-◌, ◌*◌, ◌/◌, ◌<◌, ◌≤◌, List, ◌++◌, length, get_or, map, take, drop, sym, ap, ◌∙◌, add-one, arith, length-append, length-drop, take-append-drop, length-take-le, get_or-drop, get_or-take, get_or-append-add}
use lib.ListN.{get_or-append}
use Rattle.std.proofs.lemmas.List.FromFn.{fill_by_all}
use Rattle.std.specs.List.{range_with_len}
use Rattle.sha256.specs.Sha256.{padding, padded, words_of, block_of}
use Rattle.sha256.proofs.Pieces.{words_front}
use Rattle.sha256.proofs.Padded.{blocks_are, whole_blocks_lem}
use Rattle.stretch.specs.declared.Stretcher.{Stretcher}
use Rattle.stretch.specs.Stretch.{compressed, compressions, hashed, start_of}

module _ (p s : List ℕ) where
  abbrev m : List ℕ
  m = p ++ s

  pub in_first : (i : ℕ) → i < length p → get_or p i 0 ≡ get_or (padded m) i 0
  in_first i h =
      let l = length-append p s in
      sym (get_or-append m (padding (length m)) 0 i (omega arith) ∙ get_or-append p s 0 i h)

  pub in_second : (i : ℕ) → length p ≤ i → i - length p < length s → get_or s (i - length p) 0 ≡ get_or (padded m) i 0
  in_second i h k =
      let l = length-append p s in
      let e : i ≡ length p + (i - length p) = omega arith in
      sym
      (get_or-append m (padding (length m)) 0 i (omega arith)
      ∙ ap (λ (j : ℕ). get_or m j 0) e
      ∙ get_or-append-add p s (i - length p) 0)

  pub in_padding : (i : ℕ) {b : ℕ} → length p ≤ i → length s ≤ i - length p
      → b ≡ get_or (padding (length p + length s)) (i - length p - length s) 0 → b ≡ get_or (padded m) i 0
  in_padding i h k e =
      let l = length-append p s in
      let x : ℕ = i - length p - length s in
      let j : i ≡ length m + x = omega arith in
      e ∙ ap (λ (a : ℕ). get_or (padding a) x 0) (sym l) ∙ sym (ap (λ (a : ℕ). get_or (padded m) a 0) j ∙ get_or-append-add m (padding (length m)) x 0)

module _ (l : List ℕ) (q : ℕ) (h : 64 * q + 64 ≤ length l) where
  -- block q, byte by byte
  pub block_is : map (λ (i : ℕ). get_or l (64 * q + i) 0) (range_with_len 0 64) ≡ take 64 (drop (64 * q) l)
  block_is =
      sym
      (fill_by_all (λ (i : ℕ). get_or l (64 * q + i) 0) (take 64 (drop (64 * q) l)) 64 0
      (length-take-le 64 (drop (64 * q) l) (simp length-drop (omega arith)))
      (λ i k. get_or-take 64 (drop (64 * q) l) i 0 k ∙ get_or-drop (64 * q) l i 0))

  pub words_are : words_of 16 (take 64 (drop (64 * q) l)) ≡ block_of q l
  words_are =
      let n = length-take-le 64 (drop (64 * q) l) (simp length-drop (omega arith)) in
      sym (words_front 16 (take 64 (drop (64 * q) l)) (drop 64 (drop (64 * q) l)) (omega arith)) ∙ ap (words_of 16) (take-append-drop 64 (drop (64 * q) l))

-- one block more
pub taken : (c : ℕ) (l : List ℕ) (q : ℕ) {s r : Stretcher} {b : List ℕ} → s ≡ compressions c l q → b ≡ block_of q l → r ≡ compressed s b
    → r ≡ compressions c l (q + 1)
unfolding compressions
taken c l q e f g = rw add-one (cc)

-- all blocks
pub all_taken : (p s : List ℕ) (q : ℕ) → q ≡ (length p + length s + 8) / 64 + 1 → compressions 0 (padded (p ++ s)) q ≡ start_of p s
unfolding start_of hashed
all_taken p s q e =
    let l = length-append p s in
    let b = blocks_are (p ++ s) in
    let f : q ≡ length (padded (p ++ s)) / 64 = omega arith in
    ap (compressions 0 (padded (p ++ s))) f

pub room_left : (p s : List ℕ) (q : ℕ) → q < (length p + length s + 8) / 64 + 1 → 64 * q + 64 ≤ length (padded (p ++ s))
room_left p s q h =
    let l = length-append p s in
    let w = whole_blocks_lem (p ++ s) in
    omega arith
