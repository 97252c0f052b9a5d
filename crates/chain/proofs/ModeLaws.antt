-- What a mode encrypts it decrypts again, and the other way round, over any block cipher with its laws: block by block, and so through all blocks.
use Rattle.std.proofs.Common.{◌≡◌, ℕ, ◌*◌, List, sym, refl, ap, ◌∙◌, subst, arith}
use Rattle.words.specs.Numbers.{Sized}
use Rattle.words.specs.Xor.{xored}
use Rattle.words.proofs.XorLaws.{xored_undo, sized_xored}
use Rattle.chain.specs.Cipher.{Cipher, CipherLaws}
use Rattle.chain.specs.Modes.{ecb_e, ecb_d, cbc_e, cbc_d, encrypted, decrypted}
use Rattle.chain.proofs.Through.{through, taken, through_e, through_d, Makes, through_sized, through_back}

-- a mode whose two directions undo each other on a block
pub record ModeLaws (e d : List ℕ → List ℕ → List ℕ) : Type 0 where
  pub e_sized : Makes e
  pub d_sized : Makes d
  pub d_e : (p b : List ℕ) → Sized 16 p → Sized 16 b → d p (e p b) ≡ b
  pub e_d : (p b : List ℕ) → Sized 16 p → Sized 16 b → e p (d p b) ≡ b

xor_back : (b p : List ℕ) → Sized 16 b → Sized 16 p → xored (xored b p) p ≡ b
xor_back b p hb hp = xored_undo b p (omega (arith, hb.long, hp.long))

module _ (C : Cipher) (X : CipherLaws C) (k : List ℕ) (hk : Sized 32 k) where
  pub ecb_laws : ModeLaws (ecb_e C k) (ecb_d C k)
  unfolding ecb_e ecb_d
  ecb_laws =
      record {
        e_sized = λ p b hp hb. X.enc_sized k b hk hb;
        d_sized = λ p b hp hb. X.dec_sized k b hk hb;
        d_e = λ p b hp hb. X.dec_enc k b hk hb;
        e_d = λ p b hp hb. X.enc_dec k b hk hb;
      }

  pub cbc_laws : ModeLaws (cbc_e C k) (cbc_d C k)
  unfolding cbc_e cbc_d
  cbc_laws =
      record {
        e_sized = λ p b hp hb. X.enc_sized k (xored b p) hk (sized_xored 16 b p hb hp);
        d_sized = λ p b hp hb. sized_xored 16 (C.dec k b) p (X.dec_sized k b hk hb) hp;
        d_e =
            λ p b hp hb.
            ap (λ (x : List ℕ). xored x p) (X.dec_enc k (xored b p) hk (sized_xored 16 b p hb hp)) ∙ xor_back b p hb hp;
        e_d = λ p b hp hb. ap (C.enc k) (xor_back (C.dec k b) p (X.dec_sized k b hk hb) hp) ∙ X.enc_dec k b hk hb;
      }

module _ (e d : List ℕ → List ℕ → List ℕ) (m : ModeLaws e d) (n : ℕ) (p l : List ℕ) (hp : Sized 16 p) (h : Sized (16 * n) l) where
  pub encrypted_sized : Sized (16 * n) (encrypted e n p l)
  encrypted_sized = subst (Sized (16 * n)) (through_e e n p l) (through_sized e e m.e_sized m.e_sized n p l hp h)

  pub decrypted_sized : Sized (16 * n) (decrypted d n p l)
  decrypted_sized = subst (Sized (16 * n)) (through_d d n p l) (through_sized d taken m.d_sized (λ p b hp hb. hb) n p l hp h)

  pub decrypted_encrypted : decrypted d n p (encrypted e n p l) ≡ l
  decrypted_encrypted =
      sym (through_d d n p (encrypted e n p l))
      ∙ ap (through d taken n p) (sym (through_e e n p l))
      ∙ through_back e e m.e_sized m.e_sized d taken m.d_e (λ p b hp hb. refl) n p l hp h

  pub encrypted_decrypted : encrypted e n p (decrypted d n p l) ≡ l
  encrypted_decrypted =
      sym (through_e e n p (decrypted d n p l))
      ∙ ap (through e e n p) (sym (through_d d n p l))
      ∙ through_back d taken m.d_sized (λ p b hp hb. hb) e e m.e_d m.e_d n p l hp h
