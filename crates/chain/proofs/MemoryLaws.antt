-- What the calls leave in a memory of n whole blocks: the n blocks encrypted or decrypted, and the count n past that of the earlier stage.
use Rattle.std.proofs.Common.{◌≡◌, ℕ, ◌+◌, ◌*◌, ◌/◌, ◌%◌, ◌^◌, ◌<◌, ◌≤◌, Bool, true, false, cond, leb, List, [], ◌++◌, length, take, drop, sym, refl, ap, ◌∙◌, ap₂, append-nil, arith, drop_of_length-le, take_at, drop_at, eq-eqb, ne_eqb, le-leb}
use borrow.Author.Tests.{lt-leb}
use Rattle.chain.specs.Modes.{encrypted, decrypted}
use Rattle.chain.specs.Decryption.{decryption, run}
use Rattle.chain.specs.Memory.{whole_blocks, encrypted_in_place, encrypted_into, decrypted_in_place, Handed}
use Rattle.chain.specs.Blocks.{encrypted_blocks, decrypted_blocks}
use Rattle.chain.proofs.StepLaws.{decryption_done, decryption_count, decryption_rest}

pub whole : (n : ℕ) (l : List ℕ) → length l ≡ 16 * n → whole_blocks l ≡ n
unfolding whole_blocks
whole n l h =
    let p : length l % 16 ≡ 0 = omega arith in
    let q : length l / 16 ≡ n = omega arith in
    rw (eq-eqb (length l % 16) 0 p) q

whole_here : (l : List ℕ) → length l % 16 ≡ 0 → whole_blocks l ≡ length l / 16
whole_here l h = whole (length l / 16) l (omega arith)

pub blocks_none : (l : List ℕ) → (length l % 16 ≡ 0 → ⊥) → whole_blocks l ≡ 0
unfolding whole_blocks
blocks_none l h = rw (ne_eqb (length l % 16) 0 h) refl

over : (n : ℕ) (l : List ℕ) → length l ≡ 16 * n → drop (16 * n) l ≡ []
over n l h = drop_of_length-le l {i = 16 * n} (omega arith)

-- l stored over the start of a memory
module _ (l to : List ℕ) {t : List ℕ} (q : t ≡ l ++ drop (length l) to) where
  front : take (length l) t ≡ l
  front = ap (take (length l)) q ∙ take_at l (drop (length l) to) (length l) refl

  back : drop (length l) t ≡ drop (length l) to
  back = ap (drop (length l)) q ∙ drop_at l (drop (length l) to) (length l) refl

module _ (e : List ℕ → List ℕ → List ℕ) where
  pub encrypted_whole : (n : ℕ) (p l : List ℕ) → length l ≡ 16 * n → encrypted_in_place e p l ≡ encrypted e n p l
  unfolding encrypted_in_place
  encrypted_whole n p l h = rw (whole n l h, over n l h) (append-nil (encrypted e n p l))

  pub encrypted_into_lem : (n : ℕ) (p l to : List ℕ) → length l ≡ 16 * n → length l ≤ length to → encrypted_into e p l to ≡ encrypted e n p l ++ drop (16 * n) to
  unfolding encrypted_into
  encrypted_into_lem n p l to h k = rw (le-leb (length l) (length to) k, whole n l h) refl

  -- as the code goes: refused, or all blocks
  pub refused_encrypt : (p l : List ℕ) → (length l % 16 ≡ 0 → ⊥) → l ≡ encrypted_in_place e p l
  unfolding encrypted_in_place encrypted
  refused_encrypt p l h = rw (blocks_none l h) refl

  pub encrypted_here : (p l : List ℕ) → length l % 16 ≡ 0 → encrypted_in_place e p l ≡ encrypted_blocks e p l
  unfolding encrypted_in_place encrypted_blocks
  encrypted_here p l h = rw (whole_here l h) refl

  pub refused_into : (p l to : List ℕ) → (length l % 16 ≡ 0 → ⊥) → to ≡ encrypted_into e p l to
  unfolding encrypted_into encrypted
  refused_into p l to h = rw (blocks_none l h) (either (leb (length l) (length to)))
    where
      either : (b : Bool) → to ≡ cond b to to
      either true = refl
      either false = refl

  pub too_short : (p l to : List ℕ) → length to < length l → to ≡ encrypted_into e p l to
  unfolding encrypted_into
  too_short p l to h = rw (lt-leb (length l) (length to) h) refl

  pub all_into : (p l to : List ℕ) {t v : List ℕ} → length l % 16 ≡ 0 → length l ≤ length to → t ≡ l ++ drop (length l) to
      → v ≡ encrypted_in_place e p (take (length l) t) → v ++ drop (length l) t ≡ encrypted_into e p l to
  all_into p l to m h q g =
      let n = length l / 16 in
      let k : length l ≡ 16 * n = omega arith in
      ap₂ ◌++◌ (g ∙ ap (encrypted_in_place e p) (front l to q) ∙ encrypted_whole n p l k) (back l to q ∙ ap (λ (i : ℕ). drop i to) k)
      ∙ sym (encrypted_into_lem n p l to k h)

module _ (d : List ℕ → List ℕ → List ℕ) where
  -- as the code goes: refused, or all blocks
  pub refused_decrypt : (p l : List ℕ) (c : ℕ) → (length l % 16 ≡ 0 → ⊥) → c < 2 ^ 64 → Handed (decrypted_in_place d p l c) l c
  unfolding decrypted_in_place run decryption
  refused_decrypt p l c h k = rw (blocks_none l h) (record { text = refl; blocks = omega arith })

  pub decrypted_here : (p l : List ℕ) (c : ℕ) → length l % 16 ≡ 0 → decrypted_in_place d p l c ≡ decrypted_blocks d p l c
  unfolding decrypted_in_place decrypted_blocks
  decrypted_here p l c h = rw (whole_here l h) refl

  -- what is handed on, where all blocks are done
  pub all_decrypted : (p l : List ℕ) (c : ℕ) {w : List ℕ} {r : ℕ} → w ≡ decrypted d (length l / 16) p l ++ drop (16 * (length l / 16)) l
      → r ≡ (c + length l / 16) % 2 ^ 64 → Handed (decrypted_blocks d p l c) w r
  unfolding decrypted_blocks
  all_decrypted p l c g k =
      let n = length l / 16 in
      record {
        text = g ∙ sym (ap₂ ◌++◌ (decryption_done d n p l c) (decryption_rest d n p l c));
        blocks = k ∙ sym (ap (λ (m : ℕ). m % 2 ^ 64) (decryption_count d n p l c));
      }

  -- and back
  pub handed_text : (p l : List ℕ) (c : ℕ) {w : List ℕ} {r : ℕ} → Handed (decrypted_blocks d p l c) w r
      → w ≡ decrypted d (length l / 16) p l ++ drop (16 * (length l / 16)) l
  unfolding decrypted_blocks
  handed_text p l c h = let n = length l / 16 in h.text ∙ ap₂ ◌++◌ (decryption_done d n p l c) (decryption_rest d n p l c)

  pub handed_count : (p l : List ℕ) (c : ℕ) {w : List ℕ} {r : ℕ} → Handed (decrypted_blocks d p l c) w r → r ≡ (c + length l / 16) % 2 ^ 64
  unfolding decrypted_blocks
  handed_count p l c h = h.blocks ∙ ap (λ (m : ℕ). m % 2 ^ 64) (decryption_count d (length l / 16) p l c)
