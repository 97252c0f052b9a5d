-- What an edition of the file format brings: its stretching, its HMAC, its cipher and its rules for a body. Another with
-- this layout, this order of refusals and these counts joins by the two records below, and everything that is proved here then holds of it.
use Rattle.std.specs.Prelude.{ℕ, ◌+◌, ◌/◌, ◌^◌, ◌<◌, ◌≤◌, ◌≡◌, Bool, true, List, length}
use Rattle.words.specs.Numbers.{Bytes, Sized}
use Rattle.chain.specs.Cipher.{Cipher, CipherLaws}

-- the stretched key P', its check value, and the count of compressions that the check's last step hands on
pub record Stretched : Type 0 where
  pub key : List ℕ
  pub check : List ℕ
  pub count : ℕ

-- what a safe is described by
pub record Format : Type 1 where
  -- the least ITER
  pub floor : ℕ
  -- of a passphrase, a salt and ITER
  pub stretched : List ℕ → List ℕ → ℕ → Stretched
  -- of a key and a message
  pub hmac : List ℕ → List ℕ → List ℕ
  pub cipher : Cipher
  -- the body is well formed, and these are the bytes that its HMAC covers
  pub Body : List ℕ → List ℕ → Type 0

-- the format, and what is computed of a body
pub record Edition : Type 1 where
  pub format : Format
  -- `Body` as two functions
  pub is_well_formed : List ℕ → Bool
  pub covered : List ℕ → List ℕ
  -- header fields and records
  pub headers : List ℕ → ℕ
  pub records : List ℕ → ℕ

-- compressions of the first hash, of ITER more and of the check
abbrev pub compressions_of : ℕ → ℕ → ℕ
compressions_of passphrase iter = (passphrase + 40) / 64 + 1 + iter + 1

pub record Laws (E : Edition) : Type 0 where
  pub key_sized : (p s : List ℕ) (n : ℕ) → Sized 32 (E.format.stretched p s n).key
  pub check_sized : (p s : List ℕ) (n : ℕ) → Sized 32 (E.format.stretched p s n).check
  pub count_is : (p s : List ℕ) (n : ℕ) → length p ≤ 1024 → length s ≡ 32 → n < 2 ^ 32
      → (E.format.stretched p s n).count ≡ compressions_of (length p) n
  pub hmac_sized : (k l : List ℕ) → Sized 32 (E.format.hmac k l)
  pub ciphers : CipherLaws E.format.cipher
  pub describes : (b : List ℕ) → Bytes b → E.is_well_formed b ≡ true → E.format.Body b (E.covered b)
  pub decides : (b d : List ℕ) → E.format.Body b d → (E.is_well_formed b ≡ true) × (E.covered b ≡ d)
