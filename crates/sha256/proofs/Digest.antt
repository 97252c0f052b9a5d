-- The bytes of a hash value: four of each word, highest first, one word after the other. And its words again: the bytes of a word, highest first, are the word.
use Rattle.std.proofs.Common.{◌≡◌, ℕ, ◌^◌, ◌<◌, List, [], ◌∷◌, get_or, refl, ap, ◌∙◌, ap₂, mod-eq_of_lt}
use Rattle.words.specs.Numbers.{bytes_low, number_low, number_high, bytes_high, Sized}
use Rattle.words.proofs.NumberLaws.{number_bytes_high, bytes_high_sized}
use Rattle.words.proofs.ByteLaws.{sized_append}
use Rattle.sha256.specs.Sha256.{a, b, c, d, e, f, g, h, word_of, words_of, padding, initial, compress_of, hash_value, hash_of, digest_of, sha256}

word_sized : (x : ℕ) → Sized 4 (bytes_high 4 x)
word_sized x = bytes_high_sized 4 x

pub digest_sized : (v : List ℕ) → Sized 32 (digest_of v)
unfolding digest_of
digest_sized v =
    sized_append 4 28 _ _ (word_sized _) (sized_append 4 24 _ _ (word_sized _) (sized_append 4 20 _ _ (word_sized _)
    (sized_append 4 16 _ _ (word_sized _) (sized_append 4 12 _ _ (word_sized _) (sized_append 4 8 _ _ (word_sized _)
    (sized_append 4 4 _ _ (word_sized _) (word_sized _)))))))

pub sha256_sized : (m : List ℕ) → Sized 32 (sha256 m)
unfolding sha256
sha256_sized m = digest_sized (hash_of m)

-- a hash value's bytes are half a block, and the padding the rest
pub again_words : (v : List ℕ) → ((i : ℕ) → get_or v i 0 < 2 ^ 32)
    → hash_of (digest_of v) ≡ compress_of initial (a v ∷ b v ∷ c v ∷ d v ∷ e v ∷ f v ∷ g v ∷ h v ∷ 0x8000_0000 ∷ 0 ∷ 0 ∷ 0 ∷ 0 ∷ 0 ∷ 0 ∷ 256 ∷ [])
unfolding hash_of hash_value padding digest_of bytes_low bytes_high number_low number_high words_of word_of
again_words v fits =
    ap (compress_of initial)
    (ap₂ ◌∷◌ (back 0) (ap₂ ◌∷◌ (back 1) (ap₂ ◌∷◌ (back 2) (ap₂ ◌∷◌ (back 3)
    (ap₂ ◌∷◌ (back 4) (ap₂ ◌∷◌ (back 5) (ap₂ ◌∷◌ (back 6) (ap₂ ◌∷◌ (back 7) refl))))))))
  where
    back : (i : ℕ) → number_high (bytes_high 4 (get_or v i 0)) ≡ get_or v i 0
    back i = number_bytes_high 4 (get_or v i 0) ∙ mod-eq_of_lt (fits i)
