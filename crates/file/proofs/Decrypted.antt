-- The state that the last step leaves is the whole body decrypted, and its count that of all blocks: by the laws of the steps.
use Prim.Native.Nat.{ℕ, ◌+◌, ◌-◌, ◌*◌, ◌/◌}
use mathlib.Core.Path.{◌≡◌, sym, ◌∙◌}
use mathlib.Core.List.{List, []}
use native.Mathlib.Omega.{arith}
use lib.Dec.{lit≤}
use lib.ListN.{length, drop_of_length-le}
use Rattle.words.specs.Numbers.{Bytes, Sized}
use Rattle.words.proofs.ByteLaws.{sized_take}
use Rattle.chain.specs.Modes.{cbc_d, decrypted}
use Rattle.chain.specs.Decryption.{Decryption}
use Rattle.chain.proofs.StepLaws.{decryption_rest}
use Rattle.file.specs.Layout.{Parts, split}
use Rattle.file.specs.Edition.{Edition, Laws}
use Rattle.file.specs.Reading.{keys_decrypted, body_decrypted, key_k, body_of}
use Rattle.file.proofs.PartLaws.{lengths, split_sizes, bytes_split}
use Rattle.file.proofs.Accepted.{keys_sized, body_sized, body_done}
use Rattle.file.proofs.Alike.{count_decrypted}

module _ (E : Edition) (X : Laws E) (file P' : List ℕ) (fb : Bytes file) (sized : Sized 32 P') where
  abbrev p : Parts
  p = split file

  abbrev n : ℕ
  n = (length file - 200) / 16

  abbrev o : Decryption
  o = body_of E.format p P' n

  pub whole_body : length file ≡ 200 + 16 * n
      → (o.done ≡ decrypted (cbc_d E.format.cipher (key_k E.format p P')) n p.iv p.encrypted)
      × (length o.done ≡ length file - 200)
      × (o.rest ≡ [])
      × (o.count ≡ 4 + n)
      × Bytes o.done
  unfolding body_decrypted
  whole_body whole =
      let ks = keys_decrypted E.format P' p.keys in
      let l = lengths p (length file - 200) (split_sizes file (omega arith)) in
      let b = bytes_split file fb in
      let long : length file - 200 ≡ 16 * n = omega arith in
      let hk = keys_sized E X P' sized p.keys (record { long = l.keys_long; bytes = b.keys_bytes }) in
      let hb = body_sized E X (key_k E.format p P') (sized_take 32 64 ks.done (lit≤ tt) hk) p.iv (record { long = l.iv_long; bytes = b.iv_bytes }) ks.count
      n p.encrypted (record { long = l.encrypted_long ∙ long; bytes = b.encrypted_bytes }) in (
        body_done E X (key_k E.format p P') p.iv n p.encrypted ks.count,
        hb.long ∙ sym long,
        decryption_rest (cbc_d E.format.cipher (key_k E.format p P')) n p.iv p.encrypted ks.count ∙ drop_of_length-le p.encrypted {i = 16 * n} (omega (arith, l.encrypted_long)),
        count_decrypted E X p P' n,
        hb.bytes,
      )
