-- What a loop over the blocks of a memory holds, in either direction: the definition's text is what the memory has so far, and then what the definition
-- makes of the rest; a turn of the loop takes one block of the definition, or three.
use Rattle.std.proofs.Common.{◌≡◌, ℕ, suc, ◌+◌, ◌-◌, ◌*◌, ◌/◌, ◌%◌, ◌^◌, ◌≤◌, List, ◌++◌, length, take, drop, sym, refl, ap, ◌∙◌, subst, ap₂, append_assoc, append-nil, arith, length-append, length-drop, take-append-drop, drop_of_length-le, length-take, take_all, drop-drop}
use Rattle.words.specs.Numbers.{Bytes, Sized}
use Rattle.words.proofs.ByteLaws.{bytes_take, bytes_drop}
use Rattle.words.proofs.SliceLaws.{part_of}
use Rattle.twofish.specs.Twofish.{block_of, block_bytes}
use Rattle.twofish.specs.declared.Block.{Block}
use Rattle.twofish.specs.declared.Three.{Three}
use Rattle.twofish.specs.Beside.{threefold}
use Rattle.twofish.proofs.Rounds.{Words}
use Rattle.twofish.proofs.Inverse.{block_words, bytes_block, block_bytes_sized}
use Rattle.chain.specs.Memory.{Handed}
use Rattle.chain.specs.Blocks.{decrypted_blocks, chained, on_bytes, mode_e, mode_d, three_of, three_bytes, texts_of, EncryptedBlock, DecryptedBlock, DecryptedThree}
use Rattle.chain.specs.declared.Mode.{Mode}
use Rattle.chain.specs.Modes.{decrypted}
use Rattle.chain.proofs.Through.{through, taken, through_d}
use Rattle.chain.proofs.MemoryLaws.{all_decrypted, handed_text, handed_count}
use Rattle.chain.proofs.BlockLaws.{words_e, words_d}
use Rattle.chain.proofs.InPlace.{part, around, part_is, around_take, around_drop, around_length}

-- the block of a memory from i on
pub block_sized : {l : List ℕ} (i : ℕ) → Bytes l → i + 16 ≤ length l → Sized 16 (take 16 (drop i l))
block_sized {l} i h k =
    record { long = simp (length-take, length-drop) (omega arith); bytes = bytes_take 16 (bytes_drop i h) }

-- the rest of a memory, s bytes after i
rest : (l : List ℕ) (i s : ℕ) {j : ℕ} → i + s ≡ j → drop s (drop i l) ≡ drop j l
rest l i s e = drop-drop s i l ∙ ap (λ (x : ℕ). drop x l) e

-- three blocks from i on
pub three_sized : {l : List ℕ} (i : ℕ) → Bytes l → i + 48 ≤ length l
    → Sized 16 (take 16 (drop i l)) × Sized 16 (take 16 (drop 16 (drop i l))) × Sized 16 (take 16 (drop 32 (drop i l)))
three_sized {l} i h k =
    let d : length (drop i l) ≡ length l - i = length-drop i l in
    (block_sized i h (omega arith), block_sized 16 (bytes_drop i h) (omega arith), block_sized 32 (bytes_drop i h) (omega arith))

-- the texts from the results of the calls, and their bytes
pub texts_made : (mode : Mode) (F : Block → Block) (prev : Block) (t : Three) {u : Three} {x y z : Block} → u ≡ threefold F t
    → x ≡ chained mode prev u.x → y ≡ chained mode t.x u.y → z ≡ chained mode t.y u.z
    → record { x = x; y = y; z = z } ≡ texts_of mode F prev t
unfolding texts_of
texts_made mode F prev t e ex ey ez =
    λ i. record {
      x = (ex ∙ ap (λ (v : Three). chained mode prev v.x) e) i;
      y = (ey ∙ ap (λ (v : Three). chained mode t.x v.y) e) i;
      z = (ez ∙ ap (λ (v : Three). chained mode t.y v.z) e) i;
    }

pub texts_of_lem : (mode : Mode) (F : Block → Block) (prev : Block) (b : List ℕ) {u t : Three} → u ≡ texts_of mode F prev t → t ≡ three_of b
    → block_bytes u.x ++ (block_bytes u.y ++ block_bytes u.z) ≡ three_bytes (texts_of mode F prev (three_of b))
unfolding three_bytes
texts_of_lem mode F prev b e f = ap three_bytes (e ∙ ap (texts_of mode F prev) f)

three_in : (l : List ℕ) → three_of (take 48 l) ≡ three_of l
unfolding three_of
three_in l =
    λ i. record {
      x = block_of (part_of 16 0 48 l (omega arith) i);
      y = block_of (part_of 16 16 48 l (omega arith) i);
      z = block_of (part_of 16 32 48 l (omega arith) i);
    }

three_long : (t : Three) → length (three_bytes t) ≡ 48
unfolding three_bytes
three_long t =
    let hx = (block_bytes_sized t.x).long in
    let hy = (block_bytes_sized t.y).long in
    let hz = (block_bytes_sized t.z).long in
    simp length-append (omega arith)

last_words : (l : List ℕ) → Sized 16 (take 16 (drop 32 l)) → Words (three_of l).z
unfolding three_of
last_words l h = block_words (take 16 (drop 32 l)) h.bytes

last_bytes : (l : List ℕ) → Sized 16 (take 16 (drop 32 l)) → block_bytes (three_of l).z ≡ take 16 (drop 32 l)
unfolding three_of
last_bytes l h = bytes_block (take 16 (drop 32 l)) h

-- the definition's next three blocks are the texts of three
three_more : (mode : Mode) (F : Block → Block) (prev : Block) (m : ℕ) (l : List ℕ)
    → Sized 16 (take 16 l) × Sized 16 (take 16 (drop 16 l)) × Sized 16 (take 16 (drop 32 l))
    → through (mode_d mode (on_bytes F)) taken (suc (suc (suc m))) (block_bytes prev) l
    ≡ three_bytes (texts_of mode F prev (three_of l)) ++ through (mode_d mode (on_bytes F)) taken m (take 16 (drop 32 l)) (drop 48 l)
unfolding three_bytes texts_of three_of
three_more mode F prev m l h =
    let d = mode_d mode (on_bytes F) in
    let B1 = take 16 l in
    let B2 = take 16 (drop 16 l) in
    let B3 = take 16 (drop 32 l) in
    let X = block_bytes (chained mode prev (F (block_of B1))) in
    let Y = block_bytes (chained mode (block_of B1) (F (block_of B2))) in
    let Z = block_bytes (chained mode (block_of B2) (F (block_of B3))) in
    let R = through d taken m B3 (drop 48 l) in
    let x : d (block_bytes prev) B1 ≡ X = sym (words_d F mode B1 prev) in
    let y : d B1 B2 ≡ Y = ap (λ (p : List ℕ). d p B2) (sym (bytes_block B1 h.0)) ∙ sym (words_d F mode B2 (block_of B1)) in
    let z : d B2 B3 ≡ Z = ap (λ (p : List ℕ). d p B3) (sym (bytes_block B2 h.1)) ∙ sym (words_d F mode B3 (block_of B2)) in
    ap₂ (λ (u v : List ℕ). d (block_bytes prev) B1 ++ (d B1 B2 ++ (d B2 (take 16 u) ++ through d taken m (take 16 u) v)))
    (drop-drop 16 16 l) (ap (drop 16) (drop-drop 16 16 l) ∙ drop-drop 16 32 l)
    ∙ ap₂ (λ (u v : List ℕ). u ++ (v ++ (d B2 B3 ++ R))) x y
    ∙ ap (λ (v : List ℕ). X ++ (Y ++ (v ++ R))) z
    ∙ ap (λ (v : List ℕ). X ++ v) (sym (append_assoc Y Z R))
    ∙ sym (append_assoc X (Y ++ Z) R)

module _ (f g : List ℕ → List ℕ → List ℕ) (n : ℕ) (first l : List ℕ) where
  -- memory w, done up to i, with m blocks left, and the block that the next is chained to
  pub record Turned (m i : ℕ) (w : List ℕ) (prev : Block) : Type 0 where
    pub text : through f g n first l ≡ take i w ++ through f g m (block_bytes prev) (drop i l)
    pub left : drop i w ≡ drop i l
    pub words : Words prev
    pub long : length w ≡ length l

  -- y is stored from i on, up to j, and q handed on
  turned_next : {m i : ℕ} {w : List ℕ} {prev : Block} → Turned m i w prev → (s j m' : ℕ) (y : List ℕ) (q : Block)
      → i + s ≡ j → j ≤ length l → length y ≡ s → Words q
      → through f g m (block_bytes prev) (drop i l) ≡ y ++ through f g m' (block_bytes q) (drop j l) → Turned m' j (around w i s y) q
  turned_next {m} {i} {w} {prev} o s j m' y q e k h hq t =
      let fits : j ≤ length w = omega (arith, o.long) in
      let end : drop j w ≡ drop j l =
      sym (rest w i s e) ∙ ap (drop s) o.left ∙ rest l i s e
      in
      record {
        text =
            o.text
            ∙ ap (λ (z : List ℕ). take i w ++ z) t
            ∙ sym (append_assoc (take i w) y _)
            ∙ ap (λ (x : List ℕ). x ++ through f g m' (block_bytes q) (drop j l)) (sym (around_take w i s j y e fits h));
        left = around_drop w i s j y e fits h ∙ end;
        words = hq;
        long = around_length w i s j y e fits h ∙ o.long;
      }

  pub turned_end : {m i : ℕ} {w : List ℕ} {prev : Block} → Turned m i w prev → m ≡ 0 → w ≡ through f g n first l ++ drop i l
  turned_end {m} {i} {w} {prev} o h =
      sym (take-append-drop i w)
      ∙ ap₂ ◌++◌
      (sym (o.text ∙ ap (λ (x : ℕ). take i w ++ through f g x (block_bytes prev) (drop i l)) h ∙ append-nil (take i w)))
      o.left

pub turned_start : (f g : List ℕ → List ℕ → List ℕ) (n : ℕ) (l : List ℕ) (first : Block) {m : ℕ} → m ≡ n → Words first
    → Turned f g n (block_bytes first) l m 0 l first
turned_start f g n l first e h =
    record { text = ap (λ (x : ℕ). through f g x (block_bytes first) l) (sym e); left = refl; words = h; long = refl }

-- a turn of each direction, over any cipher F on four words
module _ (mode : Mode) (F : Block → Block) (n : ℕ) (first l : List ℕ) where
  abbrev pub Encrypting : ℕ → ℕ → List ℕ → Block → Type 0
  Encrypting = Turned (mode_e mode (on_bytes F)) (mode_e mode (on_bytes F)) n first l

  abbrev pub Decrypting : ℕ → ℕ → List ℕ → Block → Type 0
  Decrypting = Turned (mode_d mode (on_bytes F)) taken n first l

  -- m' blocks are left before the turn, which ends at j, and m after it
  module _ (bytes : Bytes l) {m' i : ℕ} {w : List ℕ} {prev : Block} (m j : ℕ) where
    pub encrypt_turn : Encrypting m' i w prev → m' ≡ suc m → i + 16 ≡ j → j ≤ length l
        → (q : Block) (v : List ℕ) → Words q → EncryptedBlock mode F prev (part w i 16) v q → Encrypting m j (around w i 16 v) q
    encrypt_turn o c e k q v hq u =
        let f = mode_e mode (on_bytes F) in
        let b : part w i 16 ≡ take 16 (drop i l) = part_is w i 16 ∙ ap (take 16) o.left in
        let h = block_sized i bytes (omega arith) in
        let made : block_bytes q ≡ f (block_bytes prev) (take 16 (drop i l)) =
        ap block_bytes u.block
        ∙ ap (λ (z : List ℕ). block_bytes (F (chained mode prev (block_of z)))) b
        ∙ words_e F mode (take 16 (drop i l)) prev h o.words
        in
        subst (λ (x : List ℕ). Encrypting m j (around w i 16 x) q) (sym u.memory)
        (turned_next f f n first l o 16 j m (block_bytes q) q e k (block_bytes_sized q).long hq
        (ap (λ (x : ℕ). through f f x (block_bytes prev) (drop i l)) c ∙ ap₂ (λ (y r : List ℕ). y ++ through f f m y r) (sym made) (rest l i 16 e)))

    pub decrypt_turn : Decrypting m' i w prev → m' ≡ suc m → i + 16 ≡ j → j ≤ length l
        → (q : Block) (v : List ℕ) → DecryptedBlock mode F prev (part w i 16) v q → Decrypting m j (around w i 16 v) q
    decrypt_turn o c e k q v u =
        let f = mode_d mode (on_bytes F) in
        let b : part w i 16 ≡ take 16 (drop i l) = part_is w i 16 ∙ ap (take 16) o.left in
        let h = block_sized i bytes (omega arith) in
        let y = block_bytes (chained mode prev (F q)) in
        let hy = (block_bytes_sized (chained mode prev (F q))).long in
        let read : q ≡ block_of (take 16 (drop i l)) = u.block ∙ ap block_of b in
        let made : y ≡ f (block_bytes prev) (take 16 (drop i l)) =
        ap (λ (z : Block). block_bytes (chained mode prev (F z))) read ∙ words_d F mode (take 16 (drop i l)) prev
        in
        let same : block_bytes q ≡ take 16 (drop i l) = ap block_bytes read ∙ bytes_block (take 16 (drop i l)) h in
        subst (λ (x : List ℕ). Decrypting m j (around w i 16 x) q) (sym u.memory)
        (turned_next f taken n first l o 16 j m y q e k hy (subst Words (sym read) (block_words (take 16 (drop i l)) h.bytes))
        (ap (λ (x : ℕ). through f taken x (block_bytes prev) (drop i l)) c
        ∙ ap₂ (λ (x r : List ℕ). x ++ through f taken m (take 16 (drop i l)) r) (sym made) (rest l i 16 e)
        ∙ ap (λ (z : List ℕ). y ++ through f taken m z (drop j l)) (sym same)))

    pub three_turn : Decrypting m' i w prev → m' ≡ suc (suc (suc m)) → i + 48 ≡ j → j ≤ length l
        → (q : Block) (v : List ℕ) → DecryptedThree mode F prev (part w i 48) v q → Decrypting m j (around w i 48 v) q
    three_turn o c e k q v u =
        let L = drop i l in
        let b : part w i 48 ≡ take 48 L = part_is w i 48 ∙ ap (take 48) o.left in
        let t : three_of (part w i 48) ≡ three_of L = ap three_of b ∙ three_in L in
        let y = three_bytes (texts_of mode F prev (three_of L)) in
        let stored : v ≡ y = u.memory ∙ ap (λ (z : Three). three_bytes (texts_of mode F prev z)) t in
        let last : q ≡ (three_of L).z = u.block ∙ ap (λ (z : Three). z.z) t in
        let h = three_sized i bytes (omega arith) in
        subst (λ (x : List ℕ). Decrypting m j (around w i 48 x) q) (sym stored)
        (turned_next (mode_d mode (on_bytes F)) taken n first l o 48 j m y q e k (three_long (texts_of mode F prev (three_of L)))
        (subst Words (sym last) (last_words L h.2))
        (ap (λ (x : ℕ). through (mode_d mode (on_bytes F)) taken x (block_bytes prev) L) c
        ∙ three_more mode F prev m L h
        ∙ ap₂ (λ (z r : List ℕ). y ++ through (mode_d mode (on_bytes F)) taken m z r) (sym (ap block_bytes last ∙ last_bytes L h.2)) (rest l i 48 e)))

-- a count that goes on
counted : (x m : ℕ) → (x % 2 ^ 64 + m) % 2 ^ 64 ≡ (x + m) % 2 ^ 64
counted x m = omega arith

-- the rest of a memory, decrypted from the block handed on: then all of it is
module _ (mode : Mode) (F : Block → Block) (first l : List ℕ) (count : ℕ) where
  pub then_singly : {m i : ℕ} {w : List ℕ} {prev : Block} → Decrypting mode F (length l / 16) first l m i w prev → i + 16 * m ≡ 16 * (length l / 16)
      → (c : ℕ) {v : List ℕ} {r : ℕ} → c ≡ (count + (length l / 16 - m)) % 2 ^ 64
      → Handed (decrypted_blocks (mode_d mode (on_bytes F)) (block_bytes prev) (take (length w - i) (drop i w)) c) v r
      → Handed (decrypted_blocks (mode_d mode (on_bytes F)) first l count) (take i w ++ (v ++ drop (length w - i) (drop i w))) r
  then_singly {m} {i} {w} {prev} o e c {v} {r} k u =
      let d = mode_d mode (on_bytes F) in
      let n = length l / 16 in
      let p = block_bytes prev in
      let R = take (length w - i) (drop i w) in
      let hw : length (drop i w) ≡ length w - i = length-drop i w in
      let left : R ≡ drop i l = take_all (length w - i) (drop i w) (omega arith) ∙ o.left in
      let hl : length R ≡ length l - i = ap length left ∙ length-drop i l in
      let hm : length R / 16 ≡ m = omega arith in
      let made : v ≡ through d taken m p (drop i l) ++ drop (16 * n) l =
      handed_text d p R c u
      ∙ ap₂ (λ (x : ℕ) (z : List ℕ). decrypted d x p z ++ drop (16 * x) z) hm left
      ∙ ap₂ ◌++◌ (sym (through_d d m p (drop i l))) (rest l i (16 * m) e)
      in
      all_decrypted d first l count
      (ap (λ (z : List ℕ). take i w ++ (v ++ z)) (drop_of_length-le (drop i w) {i = length w - i} (omega arith))
      ∙ ap (λ (z : List ℕ). take i w ++ z) (append-nil v ∙ made)
      ∙ sym (append_assoc (take i w) (through d taken m p (drop i l)) (drop (16 * n) l))
      ∙ ap (λ (z : List ℕ). z ++ drop (16 * n) l) (sym o.text ∙ through_d d n first l))
      (let z : count + (n - m) + m ≡ count + n = omega arith in
      handed_count d p R c u ∙ ap₂ (λ (x y : ℕ). (x + y) % 2 ^ 64) k hm ∙ counted (count + (n - m)) m ∙ ap (λ (x : ℕ). x % 2 ^ 64) z)
