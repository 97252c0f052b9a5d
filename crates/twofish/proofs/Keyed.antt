-- With the schedule of a key the cipher of the code is Twofish under that key: the look-ups are g.
use mathlib.Core.Path.{◌≡◌, ap, ap₂, ◌∙◌}
use mathlib.Core.List.{List}
use Prim.Native.Nat.{ℕ}
use Rattle.words.specs.Table.{at}
use Rattle.twofish.specs.Q.{q0, q1}
use Rattle.twofish.specs.Key.{box_key, subkeys, g}
use Rattle.twofish.specs.Cipher.{encrypt, decrypt}
use Rattle.twofish.specs.Tabled.{schedule_of, tabled_encrypt, tabled_decrypt}
use Rattle.twofish.specs.Twofish.{block_of, block_bytes, encrypt_words, decrypt_words}
use Rattle.twofish.specs.declared.Block.{Block}
use Rattle.twofish.specs.declared.Schedule.{Schedule}
use Rattle.twofish.proofs.Lookups.{looked_up}

module _ (m : List ℕ) {s : Schedule} (e : s ≡ schedule_of m) where
  pub encrypts : tabled_encrypt s ≡ encrypt_words m
  unfolding tabled_encrypt encrypt_words schedule_of g
  encrypts = ap tabled_encrypt e ∙ ap (λ (f : ℕ → ℕ). encrypt f (at (subkeys q0 q1 m))) (looked_up (box_key m))

  pub decrypts : tabled_decrypt s ≡ decrypt_words m
  unfolding tabled_decrypt decrypt_words schedule_of g
  decrypts = ap tabled_decrypt e ∙ ap (λ (f : ℕ → ℕ). decrypt f (at (subkeys q0 q1 m))) (looked_up (box_key m))

-- a block in bytes, from the results of the calls
pub in_bytes : {F G : Block → Block} (b : List ℕ) {r : List ℕ} {x y : Block} → F ≡ G → x ≡ block_of b → y ≡ F x → r ≡ block_bytes y
    → r ≡ block_bytes (G (block_of b))
in_bytes b same ex ey er = er ∙ ap block_bytes (ey ∙ ap₂ (λ (H : Block → Block) (z : Block). H z) same ex)
