-- For every key and block of 16 bytes, decryption undoes encryption and encryption decryption: the subkeys are words, four words
-- are 16 bytes and back, and the rounds undo each other.
use mathlib.Core.Path.{◌≡◌, refl, sym, ap, ap₂, ◌∙◌}
use mathlib.Core.Bool.{Bool, true, false, cond}
use mathlib.Core.List.{List, [], ◌∷◌, ◌++◌}
use Prim.Native.Nat.{ℕ, zero, suc, ◌+◌, ◌*◌, ◌/◌, ◌%◌, ◌^◌, ◌<◌}
use native.Mathlib.Nat.{mod-eq_of_lt, div-one}
use native.Mathlib.Omega.{arith}
use lib.Dec.{eqb, lit<}
use lib.ListN.{length, take, drop}
use Rattle.std.proofs.lemmas.List.{get_or-replicate}
use Rattle.std.specs.Int.{to_le_bytes}
use mir.Syntax.{w32}
use Rattle.words.specs.Numbers.{number_low, bytes_low, Bytes, none, more, Sized}
use Rattle.words.specs.Slices.{zeros, copied}
use Rattle.words.proofs.ByteLaws.{byte_at, sized_append}
use Rattle.words.proofs.NumberLaws.{number_bytes, bytes_number, number_fits, bytes_sized, four_low}
use Rattle.words.proofs.RotationLaws.{left_fits}
use Rattle.words.specs.Table.{at}
use Rattle.twofish.specs.Q.{q0, q1}
use Rattle.twofish.specs.Key.{evens, odds, word_a, word_b, subkey, subkeys, g}
use Rattle.twofish.specs.Twofish.{word_at, block_of, block_bytes, encrypt_words, decrypt_words, encrypt_block, decrypt_block}
use Rattle.twofish.specs.declared.Block.{Block}
use Rattle.words.proofs.Tables.{table_fits, is_table}
use Rattle.twofish.proofs.Rounds.{Words, blocks, decrypt_encrypt, encrypt_decrypt, encrypt_words_lem, decrypt_words_lem}

-- the subkeys are words
picked : (n : ℕ) (b : Bool) {x y : ℕ} → x < n → y < n → cond b x y < n
picked n true p q = p
picked n false p q = q

subkey_fits : (p q : ℕ → ℕ) (e o : List ℕ) (j : ℕ) → subkey p q e o j < 2 ^ 32
unfolding subkey
subkey_fits p q e o j =
    let u = (word_a p q e (j / 2) + 2 * word_b p q o (j / 2)) % 2 ^ 32 in
    picked (2 ^ 32) (eqb (j % 2) 0) (omega arith) (left_fits 32 9 u (omega arith) (omega arith))

fits : (m : List ℕ) (i : ℕ) → at (subkeys q0 q1 m) i < 2 ^ 32
unfolding subkeys
fits m i = table_fits (2 ^ 32) 40 (subkey q0 q1 (evens m) (odds m)) i (lit< tt) (subkey_fits q0 q1 (evens m) (odds m))

-- four bytes of a list of bytes, from i on
four : (l : List ℕ) (i : ℕ) → Bytes l → Bytes (at l i ∷ at l (i + 1) ∷ at l (i + 2) ∷ at l (i + 3) ∷ [])
four l i h = more (byte_at h i) (more (byte_at h (i + 1)) (more (byte_at h (i + 2)) (more (byte_at h (i + 3)) none)))

pub block_words : (l : List ℕ) → Bytes l → Words (block_of l)
unfolding block_of
block_words l h =
    record {
      fa = number_fits (four l 0 h);
      fb = number_fits (four l 4 h);
      fc = number_fits (four l 8 h);
      fd = number_fits (four l 12 h);
    }

-- 16 bytes as words and back
listed16 : (l : List ℕ) → length l ≡ 16
    → l ≡ at l 0 ∷ at l 1 ∷ at l 2 ∷ at l 3 ∷ at l 4 ∷ at l 5 ∷ at l 6 ∷ at l 7 ∷ at l 8 ∷ at l 9 ∷ at l 10 ∷ at l 11 ∷ at l 12 ∷ at l 13 ∷ at l 14 ∷ at l 15 ∷ []
listed16 l h = is_table 16 (at l) l h (λ k p. refl)

pub bytes_block : (l : List ℕ) → Sized 16 l → block_bytes (block_of l) ≡ l
unfolding block_bytes block_of
bytes_block l h =
    ap₂ ◌++◌ (bytes_number (four l 0 h.bytes))
    (ap₂ ◌++◌ (bytes_number (four l 4 h.bytes))
    (ap₂ ◌++◌ (bytes_number (four l 8 h.bytes)) (bytes_number (four l 12 h.bytes))))
    ∙ sym (listed16 l h.long)

pub block_bytes_lem : (x : Block) → Words x → block_of (block_bytes x) ≡ x
unfolding block_bytes block_of bytes_low
block_bytes_lem x w =
    blocks
    (number_bytes 4 x.a ∙ mod-eq_of_lt w.fa)
    (number_bytes 4 x.b ∙ mod-eq_of_lt w.fb)
    (number_bytes 4 x.c ∙ mod-eq_of_lt w.fc)
    (number_bytes 4 x.d ∙ mod-eq_of_lt w.fd)

-- the bytes of a block, word by word as std has them
four_bytes : (x : ℕ) → to_le_bytes w32 x ≡ bytes_low 4 x
four_bytes x = ap (λ (y : ℕ). y % 256 ∷ x / 256 % 256 ∷ x / 65536 % 256 ∷ x / 16777216 % 256 ∷ []) (sym (div-one x)) ∙ sym (four_low x)

pub sixteen : (x : Block) → to_le_bytes w32 x.a ++ (to_le_bytes w32 x.b ++ (to_le_bytes w32 x.c ++ to_le_bytes w32 x.d)) ≡ block_bytes x
unfolding block_bytes
sixteen x = ap₂ ◌++◌ (four_bytes x.a) (ap₂ ◌++◌ (four_bytes x.b) (ap₂ ◌++◌ (four_bytes x.c) (four_bytes x.d)))

-- the first 16 bytes, with zeros where a list is shorter, are the same block
padded : (n : ℕ) (l : List ℕ) (i : ℕ) → i < n → at (take n l ++ drop (length l) (zeros n)) i ≡ at l i
padded zero l i h = absurd (omega arith)
padded (suc n) [] i h = get_or-replicate (suc n) i 0 0 h
padded (suc n) (b ∷ l) zero h = refl
padded (suc n) (b ∷ l) (suc i) h = padded n l i (omega arith)

pub block_of_first : (l : List ℕ) → block_of (copied (zeros 16) l) ≡ block_of l
unfolding block_of
block_of_first l = blocks (word 0 (omega arith)) (word 4 (omega arith)) (word 8 (omega arith)) (word 12 (omega arith))
  where
    word : (i : ℕ) → i + 3 < 16 → word_at (copied (zeros 16) l) i ≡ word_at l i
    word i h =
        λ t. number_low (padded 16 l i (omega arith) t ∷ padded 16 l (i + 1) (omega arith) t ∷ padded 16 l (i + 2) (omega arith) t ∷ padded 16 l (i + 3) (omega arith) t ∷ [])

pub block_bytes_sized : (x : Block) → Sized 16 (block_bytes x)
unfolding block_bytes
block_bytes_sized x =
    sized_append 4 12 _ _ (bytes_sized 4 x.a)
    (sized_append 4 8 _ _ (bytes_sized 4 x.b) (sized_append 4 4 _ _ (bytes_sized 4 x.c) (bytes_sized 4 x.d)))

pub encrypt_block_sized : (m b : List ℕ) → Sized 16 (encrypt_block m b)
unfolding encrypt_block
encrypt_block_sized m b = block_bytes_sized (encrypt_words m (block_of b))

pub decrypt_block_sized : (m b : List ℕ) → Sized 16 (decrypt_block m b)
unfolding decrypt_block
decrypt_block_sized m b = block_bytes_sized (decrypt_words m (block_of b))

pub decrypt_encrypt_block : (m b : List ℕ) → Sized 16 b → decrypt_block m (encrypt_block m b) ≡ b
unfolding encrypt_block decrypt_block encrypt_words decrypt_words
decrypt_encrypt_block m b h =
    let w = block_words b h.bytes in
    let k = at (subkeys q0 q1 m) in
    ap (λ (x : Block). block_bytes (decrypt_words m x)) (block_bytes_lem (encrypt_words m (block_of b)) (encrypt_words_lem (g q0 q1 m) k (fits m) (block_of b) w))
    ∙ ap block_bytes (decrypt_encrypt (g q0 q1 m) k (fits m) (block_of b) w)
    ∙ bytes_block b h

pub encrypt_decrypt_block : (m b : List ℕ) → Sized 16 b → encrypt_block m (decrypt_block m b) ≡ b
unfolding encrypt_block decrypt_block encrypt_words decrypt_words
encrypt_decrypt_block m b h =
    let w = block_words b h.bytes in
    let k = at (subkeys q0 q1 m) in
    ap (λ (x : Block). block_bytes (encrypt_words m x)) (block_bytes_lem (decrypt_words m (block_of b)) (decrypt_words_lem (g q0 q1 m) k (fits m) (block_of b) w))
    ∙ ap block_bytes (encrypt_decrypt (g q0 q1 m) k (fits m) (block_of b) w)
    ∙ bytes_block b h
