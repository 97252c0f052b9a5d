-- Demand 3: the counts by their formulas, and refusals that do not tell the bodies apart: after a match every refusal is the same, and so is every
-- one before.
use Prim.Native.Nat.{ℕ, ◌+◌, ◌-◌, ◌/◌}
use mathlib.Core.Path.{◌≡◌, refl, sym, ap, ap₂, ◌∙◌}
use mathlib.Core.Bool.{Bool, true, false}
use mathlib.Core.List.{List}
use native.Mathlib.Omega.{arith}
use lib.ListN.{length}
use borrow.Author.Tests.{ltb-false}
use Rattle.words.specs.Numbers.{Bytes, number_low}
use Rattle.words.specs.Slices.{zeros}
use Rattle.chain.specs.Modes.{ecb_d, cbc_d}
use Rattle.chain.proofs.StepLaws.{decryption_count}
use Rattle.file.specs.Layout.{Parts, split, differ}
use Rattle.file.specs.Edition.{Edition, Stretched, Laws, compressions_of}
use Rattle.file.specs.Reading.{Report, refused, accepted, keys_decrypted, body_decrypted, key_k, body_of, checked, reading_of}
use Rattle.file.proofs.PartLaws.{lengths, split_sizes, bytes_split, iter_small}
use Rattle.file.proofs.Passed.{Late, early, passed_early, Matches, late_passed, is_accepted, is_nine, is_eight}
use Rattle.file.proofs.Accepted.{good_length}

other : (b : Bool) → (b ≡ false → ⊥) → b ≡ true
other true h = refl
other false h = absurd (h refl)

module _ (E : Edition) (X : Laws E) where
  pub count_decrypted : (p : Parts) (P' : List ℕ) (n : ℕ) → (body_of E.format p P' n).count ≡ 4 + n
  unfolding keys_decrypted body_decrypted
  count_decrypted p P' n =
      decryption_count (cbc_d E.format.cipher (key_k E.format p P')) n p.iv p.encrypted (keys_decrypted E.format P' p.keys).count
      ∙ ap (λ (k : ℕ). k + n) (decryption_count (ecb_d E.format.cipher P') 4 (zeros 16) p.keys 0)

  -- a reading that is refused by none of 1 to 7
  module _ (file pass : List ℕ) (ceiling room : ℕ) (fb : Bytes file) (h : Late (reading_of E file pass ceiling room).number) where
    abbrev key : Stretched
    key = E.format.stretched pass (split file).salt (number_low (split file).iter)

    pub compressed : key.count ≡ compressions_of (length pass) (number_low (split file).iter)
    compressed =
        let e = early E file pass ceiling room h in
        let g = good_length (length file) e.t1 in
        let l = lengths (split file) (length file - 200) (split_sizes file (omega arith)) in
        X.count_is pass (split file).salt (number_low (split file).iter) (ltb-false 1024 (length pass) e.t2) l.salt_long
        (iter_small (split file).iter (bytes_split file fb).iter_bytes l.iter_long)

    reading_is : reading_of E file pass ceiling room ≡ checked E (split file) key ((length file - 200) / 16)
    reading_is = passed_early E file pass ceiling room (early E file pass ceiling room h)

    pub unmatched : (Matches (split file) key → ⊥)
        → reading_of E file pass ceiling room ≡ refused 8 (compressions_of (length pass) (number_low (split file).iter)) 0
    unmatched m = reading_is ∙ is_eight E (split file) key ((length file - 200) / 16) (other (differ key.check (split file).check) λ e. m (record { t8 = e }))
        ∙ ap (λ (c : ℕ). refused 8 c 0) compressed

    pub matched : Matches (split file) key → ((reading_of E file pass ceiling room).number ≡ 0 → ⊥)
        → reading_of E file pass ceiling room ≡ refused 9 (compressions_of (length pass) (number_low (split file).iter)) (4 + (length file - 200) / 16)
    matched m n = reading_is
        ∙ is_nine E (split file) key ((length file - 200) / 16) m (λ e. n (ap (λ (r : Report). r.number) reading_is ∙ e))
        ∙ ap₂ (refused 9) compressed (count_decrypted (split file) key.key ((length file - 200) / 16))

    pub opened_counts : (reading_of E file pass ceiling room).number ≡ 0
        → ((reading_of E file pass ceiling room).compressions ≡ compressions_of (length pass) (number_low (split file).iter))
        × ((reading_of E file pass ceiling room).blocks ≡ 4 + (length file - 200) / 16)
    unfolding accepted
    opened_counts n =
        let w = late_passed E (split file) key ((length file - 200) / 16) (sym (ap (λ (r : Report). r.number) reading_is) ∙ n) in
        let x = reading_is ∙ is_accepted E (split file) key ((length file - 200) / 16) w.0 w.1 in
        (ap (λ (r : Report). r.compressions) x ∙ compressed, ap (λ (r : Report). r.blocks) x ∙ count_decrypted (split file) key.key ((length file - 200) / 16))

  -- DEMAND 3
  module _ (file file' pass pass' : List ℕ) (ceiling ceiling' room : ℕ) (fb : Bytes file) (fb' : Bytes file')
      (h : Late (reading_of E file pass ceiling room).number) (h' : Late (reading_of E file' pass' ceiling' room).number)
      (lf : length file ≡ length file') (lp : length pass ≡ length pass') (li : number_low (split file).iter ≡ number_low (split file').iter) where
    pub alike_unmatched : (Matches (split file) (key file pass ceiling room fb h) → ⊥) → (Matches (split file') (key file' pass' ceiling' room fb' h') → ⊥)
        → reading_of E file pass ceiling room ≡ reading_of E file' pass' ceiling' room
    alike_unmatched m m' = unmatched file pass ceiling room fb h m ∙ rw (lp, li) (sym (unmatched file' pass' ceiling' room fb' h' m'))

    pub alike_matched : Matches (split file) (key file pass ceiling room fb h) → Matches (split file') (key file' pass' ceiling' room fb' h')
        → ((reading_of E file pass ceiling room).number ≡ 0 → ⊥) → ((reading_of E file' pass' ceiling' room).number ≡ 0 → ⊥)
        → reading_of E file pass ceiling room ≡ reading_of E file' pass' ceiling' room
    alike_matched m m' n n' = matched file pass ceiling room fb h m n ∙ rw (lf, lp, li) (sym (matched file' pass' ceiling' room fb' h' m' n'))
