-- A block cipher on byte lists: keys of 32 bytes, blocks of 16 bytes, and an inverse.
-- A second cipher joins by these two records alone: AES-256 would bring the cipher and the inverse cipher of FIPS 197 as enc and dec,
-- that their results have 16 bytes, and that each undoes the other. Everything that is proved here of the modes then holds of it.
use Rattle.std.specs.Prelude.{◌≡◌, ℕ, List}
use Rattle.words.specs.Numbers.{Sized}

-- the key first, then the block
pub record Cipher : Type 0 where
  pub enc : List ℕ → List ℕ → List ℕ
  pub dec : List ℕ → List ℕ → List ℕ

pub record CipherLaws (C : Cipher) : Type 0 where
  pub enc_sized : (k b : List ℕ) → Sized 32 k → Sized 16 b → Sized 16 (C.enc k b)
  pub dec_sized : (k b : List ℕ) → Sized 32 k → Sized 16 b → Sized 16 (C.dec k b)
  pub dec_enc : (k b : List ℕ) → Sized 32 k → Sized 16 b → C.dec k (C.enc k b) ≡ b
  pub enc_dec : (k b : List ℕ) → Sized 32 k → Sized 16 b → C.enc k (C.dec k b) ≡ b
