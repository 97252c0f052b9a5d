-- What decryption hands on is the definition's state, the memory its text and the count its own; and the keys wrapped again: by the laws of a memory of whole blocks.
use Prim.Native.Nat.{ℕ, ◌+◌, ◌-◌, ◌*◌, ◌%◌, ◌^◌, ◌<◌}
use mathlib.Core.Path.{◌≡◌, ap, ◌∙◌}
use mathlib.Core.List.{List, [], ◌++◌, append-nil}
use native.Mathlib.Nat.{mod-eq_of_lt}
use native.Mathlib.Omega.{arith}
use lib.ListN.{length, take, drop, length-append, length-drop, drop_of_length-le}
use lib.Seq.{take_all, length-take-le}
use Rattle.words.specs.Numbers.{Bytes}
use Rattle.words.specs.Slices.{zeros, copied}
use Rattle.words.proofs.SliceLaws.{copied_whole}
use Rattle.chain.specs.Modes.{ecb_d, cbc_d, ecb_e}
use Rattle.chain.specs.Decryption.{Decryption, decryption, step, run}
use Rattle.chain.specs.Memory.{decrypted_in_place, encrypted_in_place, Handed}
use Rattle.chain.specs.Twofish.{twofish_cipher}
use Rattle.chain.proofs.MemoryLaws.{whole, encrypted_whole}
use Rattle.chain.proofs.StepLaws.{decryption_count, decryption_rest}
use Rattle.file.specs.Layout.{split}
use Rattle.file.specs.Description.{wrapped}
use Rattle.file.specs.Reading.{keys_decrypted, body_decrypted, key_k}
use Rattle.safe.specs.V3.{v3}
use Rattle.safe.specs.Calls.{blocks_in}
use Rattle.safe.specs.Steps.{Measured, Unwrapped, Decrypts}
use Rattle.safe.specs.declared.decrypt.Decrypted.{Decrypted}

module _ (d : List ℕ → List ℕ → List ℕ) (n : ℕ) (prev l : List ℕ) (c : ℕ) (h : length l ≡ 16 * n) (k : c + n < 2 ^ 64) where
  abbrev o : Decryption
  o = run (step d) n (decryption prev l c)

  opened_is : decrypted_in_place d prev l c ≡ o
  unfolding decrypted_in_place
  opened_is = ap (λ (m : ℕ). run (step d) m (decryption prev l c)) (whole n l h)

  -- all of the memory is decrypted
  pub handed : {w : List ℕ} {r : ℕ} → Handed (decrypted_in_place d prev l c) w r → (w ≡ o.done) × (r ≡ o.count)
  handed x =
      let rest : o.rest ≡ [] = decryption_rest d n prev l c ∙ drop_of_length-le l {i = 16 * n} (omega arith) in
      let count : o.count ≡ c + n = decryption_count d n prev l c in (
        x.text ∙ ap (λ (s : Decryption). s.done ++ s.rest) opened_is ∙ ap (λ (y : List ℕ). o.done ++ y) rest ∙ append-nil o.done,
        x.blocks ∙ ap (λ (s : Decryption). s.count % 2 ^ 64) opened_is ∙ mod-eq_of_lt (omega arith),
      )

-- the two keys
pub unwrapped : (key keys w : List ℕ) {a b : List ℕ} {r : ℕ} → length keys ≡ 64
    → Handed (decrypted_in_place (ecb_d twofish_cipher key) (zeros 16) keys 0) w r → a ≡ copied (zeros 32) (take 32 w) → b ≡ copied (zeros 32) (take 32 (drop 32 w)) → length w ≡ 64
    → Unwrapped key keys (record { keys = record { k = a; l = b }; blocks = r })
unfolding keys_decrypted v3
unwrapped key keys w h x p q n =
    let t = handed (ecb_d twofish_cipher key) 4 (zeros 16) keys 0 h (omega arith) x in
    let e = length-drop 32 w in
    let rest = take_all 32 (drop 32 w) (omega arith) in
    record {
      k = p ∙ copied_whole 32 (take 32 w) (length-take-le 32 w (omega arith)) ∙ ap (take 32) t.0;
      l = q ∙ ap (copied (zeros 32)) rest ∙ copied_whole 32 (drop 32 w) (omega arith) ∙ ap (drop 32) t.0;
      count = t.1;
    }

-- four blocks of keys
pub keys_count : (key keys : List ℕ) {r : Decrypted} → Unwrapped key keys r → r.blocks ≡ 4
unfolding keys_decrypted
keys_count key keys u = u.count ∙ decryption_count (ecb_d v3.cipher key) 4 (zeros 16) keys 0

-- the body
pub body_decrypted_lem : (file P' iv w l : List ℕ) {n : ℕ} {d : Decrypted} {r : ℕ} → Bytes file → Measured file n → Unwrapped P' (split file).keys d
    → iv ≡ (split file).iv → l ≡ (split file).encrypted → Handed (decrypted_in_place (cbc_d twofish_cipher d.keys.k) iv l d.blocks) w r
    → Decrypts file P' w (record { keys = d.keys; blocks = r })
unfolding body_decrypted v3 split
body_decrypted_lem file P' iv w l {d = u₀} b h u p q x =
    let c = keys_count P' (split file).keys u in
    let d = length-drop 152 file in
    let long : length (split file).encrypted ≡ 16 * blocks_in file = length-take-le (length file - 200) (drop 152 file) (omega (arith, h.whole)) ∙ omega (arith, h.whole) in
    let y : Handed (decrypted_in_place (cbc_d twofish_cipher (key_k v3 (split file) P')) (split file).iv (split file).encrypted (keys_decrypted v3 P' (split file).keys).count) w _ = rw (u.k, u.count, p, q) at x in
    let t = handed (cbc_d twofish_cipher (key_k v3 (split file) P')) (blocks_in file) (split file).iv (split file).encrypted (keys_decrypted v3 P' (split file).keys).count long (omega (arith, h.short, c, u.count)) y in
    record { bytes = b; whole = h.whole; k = u.k; l = u.l; text = t.0; count = t.1 }

-- the keys wrapped again
pub wrapped_is : (key K L w m : List ℕ) → length K ≡ 32 → length L ≡ 32 → m ≡ K ++ L
    → w ≡ encrypted_in_place (ecb_e twofish_cipher key) (zeros 16) m → w ≡ wrapped v3 key K L
unfolding wrapped v3
wrapped_is key K L w m h k e x =
    x ∙ ap (encrypted_in_place (ecb_e twofish_cipher key) (zeros 16)) e ∙ encrypted_whole (ecb_e twofish_cipher key) 4 (zeros 16) (K ++ L) (simp length-append (omega arith))
