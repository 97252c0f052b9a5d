-- The modes over a block cipher: ECB and CBC. A mode gives the cipher block of a block, and back, by the cipher block before it.
use Rattle.std.specs.Prelude.{ℕ, zero, suc, List, [], ◌++◌, take, drop}
use Rattle.words.specs.Xor.{xored}
use Rattle.chain.specs.Cipher.{Cipher}

module _ (C : Cipher) (k : List ℕ) where
  -- ECB: each block by itself
  unfoldable pub ecb_e : List ℕ → List ℕ → List ℕ
  ecb_e prev b = C.enc k b

  unfoldable pub ecb_d : List ℕ → List ℕ → List ℕ
  ecb_d prev c = C.dec k c

  -- CBC: each block with the cipher block before it
  unfoldable pub cbc_e : List ℕ → List ℕ → List ℕ
  cbc_e prev b = C.enc k (xored b prev)

  unfoldable pub cbc_d : List ℕ → List ℕ → List ℕ
  cbc_d prev c = xored (C.dec k c) prev

-- the cipher text of the first n blocks of l, in a mode
unfoldable pub encrypted : (List ℕ → List ℕ → List ℕ) → ℕ → List ℕ → List ℕ → List ℕ
encrypted e zero prev l = []
encrypted e (suc n) prev l = e prev (take 16 l) ++ encrypted e n (e prev (take 16 l)) (drop 16 l)

-- the text of the first n blocks of a cipher text l
unfoldable pub decrypted : (List ℕ → List ℕ → List ℕ) → ℕ → List ℕ → List ℕ → List ℕ
decrypted d zero prev l = []
decrypted d (suc n) prev l = d prev (take 16 l) ++ decrypted d n (take 16 l) (drop 16 l)
