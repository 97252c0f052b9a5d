-- Twofish meets the laws of a block cipher, by its two inverses; so ECB and CBC over it undo themselves with nothing left to assume.
-- And it is what the code's functions on four words do, with what a key makes.
use Rattle.std.proofs.Common.{◌≡◌, ℕ, ◌*◌, ◌<◌, List, length, get_or, ap, ◌∙◌}
use Rattle.words.specs.Numbers.{Sized}
use Rattle.words.proofs.ByteLaws.{bytes_of}
use Rattle.twofish.specs.Tabled.{schedule_of, tabled_encrypt, tabled_decrypt}
use Rattle.twofish.specs.Twofish.{block_of, block_bytes, encrypt_block, decrypt_block}
use Rattle.twofish.specs.declared.Block.{Block}
use Rattle.twofish.specs.declared.Schedule.{Schedule}
use Rattle.twofish.proofs.Keyed.{encrypts, decrypts}
use Rattle.twofish.proofs.Inverse.{bytes_block, encrypt_block_sized, decrypt_block_sized, decrypt_encrypt_block, encrypt_decrypt_block}
use Rattle.chain.specs.Cipher.{CipherLaws}
use Rattle.chain.specs.Modes.{ecb_e, ecb_d, cbc_e, cbc_d, encrypted, decrypted}
use Rattle.chain.specs.Twofish.{twofish_cipher}
use Rattle.chain.specs.Blocks.{on_bytes}
use Rattle.chain.proofs.ModeLaws.{ModeLaws, ecb_laws, cbc_laws, decrypted_encrypted, encrypted_decrypted}

pub twofish_laws : CipherLaws twofish_cipher
twofish_laws =
    record {
      enc_sized = λ k b hk hb. encrypt_block_sized k b;
      dec_sized = λ k b hk hb. decrypt_block_sized k b;
      dec_enc = λ k b hk hb. decrypt_encrypt_block k b hb;
      enc_dec = λ k b hk hb. encrypt_decrypt_block k b hb;
    }

module _ (k : List ℕ) (hk : Sized 32 k) where
  pub twofish_ecb : ModeLaws (ecb_e twofish_cipher k) (ecb_d twofish_cipher k)
  twofish_ecb = ecb_laws twofish_cipher twofish_laws k hk

  pub twofish_cbc : ModeLaws (cbc_e twofish_cipher k) (cbc_d twofish_cipher k)
  twofish_cbc = cbc_laws twofish_cipher twofish_laws k hk

  module _ (n : ℕ) (p l : List ℕ) (hp : Sized 16 p) (hl : Sized (16 * n) l) where
    pub ecb_back : decrypted (ecb_d twofish_cipher k) n p (encrypted (ecb_e twofish_cipher k) n p l) ≡ l
    ecb_back = decrypted_encrypted _ _ twofish_ecb n p l hp hl

    pub ecb_again : encrypted (ecb_e twofish_cipher k) n p (decrypted (ecb_d twofish_cipher k) n p l) ≡ l
    ecb_again = encrypted_decrypted _ _ twofish_ecb n p l hp hl

    pub cbc_back : decrypted (cbc_d twofish_cipher k) n p (encrypted (cbc_e twofish_cipher k) n p l) ≡ l
    cbc_back = decrypted_encrypted _ _ twofish_cbc n p l hp hl

    pub cbc_again : encrypted (cbc_e twofish_cipher k) n p (decrypted (cbc_d twofish_cipher k) n p l) ≡ l
    cbc_again = encrypted_decrypted _ _ twofish_cbc n p l hp hl

module _ (key : List ℕ) {s : Schedule} (e : s ≡ schedule_of key) where
  pub tabled_enc : on_bytes (tabled_encrypt s) ≡ encrypt_block key
  unfolding on_bytes encrypt_block
  tabled_enc = ap on_bytes (encrypts key e)

  pub tabled_dec : on_bytes (tabled_decrypt s) ≡ decrypt_block key
  unfolding on_bytes decrypt_block
  tabled_dec = ap on_bytes (decrypts key e)

-- the block that the first one is chained to has the bytes of the initial vector
pub iv_bytes : (iv : List ℕ) {r : Block} → length iv ≡ 16 → ((i : ℕ) → get_or iv i 0 < 256) → r ≡ block_of iv → block_bytes r ≡ iv
iv_bytes iv h f e = ap block_bytes e ∙ bytes_block iv (record { long = h; bytes = bytes_of iv f })
