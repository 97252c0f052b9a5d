-- Past the check, 9 exactly when the body is not as described, or its HMAC differs: by the two tests of the body, which decide the description.
use Prim.Native.Nat.{ℕ, ◌-◌, ◌/◌}
use mathlib.Core.Path.{◌≡◌, ap, ◌∙◌}
use mathlib.Core.Logic.{◌↔◌}
use mathlib.Core.Bool.{not}
use mathlib.Core.List.{List}
use native.Mathlib.Omega.{arith}
use lib.ListN.{length}
use borrow.Author.Tests.{not-false}
use Rattle.words.specs.Numbers.{Bytes, number_low}
use Rattle.file.specs.Layout.{Parts, split}
use Rattle.file.specs.Edition.{Edition, Laws, Stretched}
use Rattle.file.specs.Reading.{key_l, body_of, reading_of}
use Rattle.file.proofs.Glue.{same_of, same_is}
use Rattle.file.proofs.Passed.{Late, Matches, Whole, early}
use Rattle.file.proofs.Accepted.{good_length}
use Rattle.file.proofs.Decrypted.{whole_body}
use Rattle.file.proofs.Ends as Ends

module _ (E : Edition) (X : Laws E) (file pass : List ℕ) (ceiling room : ℕ) (fb : Bytes file) where
  abbrev p : Parts
  p = split file

  abbrev n : ℕ
  n = (length file - 200) / 16

  abbrev s : Stretched
  s = E.format.stretched pass p.salt (number_low p.iter)

  abbrev body : List ℕ
  body = (body_of E.format p s.key n).done

  -- the body's fields have these data, and the file has the HMAC of them
  abbrev pub Described : Type 0
  Described = (d : List ℕ) × E.format.Body body d × (E.format.hmac (key_l E.format p s.key) d ≡ p.mac)

  whole : Described → Whole E p s n
  whole (d, b, e) =
      let t = X.decides body d b in
      record {
        fine = ap not t.0;
        mac = same_is _ p.mac (ap (E.format.hmac (key_l E.format p s.key)) t.1 ∙ e);
      }

  described : Bytes body → Whole E p s n → Described
  described bb w = (
    E.covered body,
    X.describes body bb (not-false (E.is_well_formed body) w.fine),
    same_of (E.format.hmac (key_l E.format p s.key) (E.covered body)) p.mac w.mac,
  )

  pub nine : Late (reading_of E file pass ceiling room).number → Matches p s → ((reading_of E file pass ceiling room).number ≡ 9) ↔ (Described → ⊥)
  nine l m =
      let e = Ends.nine_exactly E file pass ceiling room l m in
      let g = good_length (length file) (early E file pass ceiling room l).t1 in
      let bb = (whole_body E X file s.key fb (X.key_sized pass p.salt (number_low p.iter)) (omega arith)).4 in
      (λ h d. e.0 h (whole d), λ h. e.1 λ w. h (described bb w))
