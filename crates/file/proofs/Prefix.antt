-- No proper prefix of a safe is a safe: its marker would stand, aligned, within the encrypted body of the whole, where no block is the marker.
use Prim.Native.Nat.{ℕ, ◌+◌, ◌*◌, ◌/◌, ◌<◌}
use mathlib.Core.Path.{◌≡◌, refl, sym, ap, ◌∙◌}
use mathlib.Core.List.{List, ◌++◌}
use native.Mathlib.Omega.{arith}
use lib.ListN.{length, take, drop, length-drop}
use lib.Seq.{drop-drop, take_at, drop_at, take-append-le, drop-append-le, length-take-le}
use Rattle.words.proofs.SliceLaws.{part_of}
use Rattle.file.specs.Layout.{marker}
use Rattle.file.specs.Edition.{Edition, Laws}
use Rattle.file.specs.Description.{IsSafe, cbc}
use Rattle.file.proofs.Markers.{marker_sized}
use Rattle.file.proofs.Accepted.{file_long, tail_is, cbc_sized}

-- block i of what stands from offset 152 on
abbrev block : ℕ → List ℕ → List ℕ
block i file = take 16 (drop (16 * i) (drop 152 file))

module _ (E : Edition) (X : Laws E) where
  module _ (pass file salt : List ℕ) (iter : ℕ) (K L iv body : List ℕ) (z : IsSafe E.format pass file salt iter K L iv body) where
    abbrev c : List ℕ
    c = cbc E.format K iv body

    long : length c ≡ 16 * (length body / 16)
    long =
        let w = z.body_whole in
        (cbc_sized E X K z.K_sized iv z.iv_sized 0 (length body / 16) body refl (record { long = omega arith; bytes = z.body_bytes })).long

    -- the marker follows the body
    behind : block (length body / 16) file ≡ marker
    behind =
        let t = tail_is E X pass file salt iter K L iv body z in
        ap (λ (l : List ℕ). take 16 (drop (16 * (length body / 16)) l)) t
        ∙ ap (take 16) (drop_at c (marker ++ E.format.hmac L z.covered) (16 * (length body / 16)) long)
        ∙ take_at marker (E.format.hmac L z.covered) 16 marker_sized

    -- and is no block of it
    within : (i : ℕ) → i < length body / 16 → block i file ≡ marker → ⊥
    within i h e =
        let t = tail_is E X pass file salt iter K L iv body z in
        let n = long in
        let d = length-drop (16 * i) c in
        z.no_marker i h
        (sym
        (ap (λ (l : List ℕ). take 16 (drop (16 * i) l)) t
        ∙ ap (take 16) (drop-append-le (16 * i) c (marker ++ E.format.hmac L z.covered) (omega arith))
        ∙ take-append-le 16 (drop (16 * i) c) (marker ++ E.format.hmac L z.covered) (omega arith))
        ∙ e)

  pub no_prefix : (pass pass' file salt salt' : List ℕ) (iter iter' k : ℕ) (K L iv body K' L' iv' body' : List ℕ)
      → IsSafe E.format pass file salt iter K L iv body → k < length file → IsSafe E.format pass' (take k file) salt' iter' K' L' iv' body' → ⊥
  no_prefix pass pass' file salt salt' iter iter' k K L iv body K' L' iv' body' z h z' =
      let l = file_long E X pass file salt iter K L iv body z in
      let l' = file_long E X pass' (take k file) salt' iter' K' L' iv' body' z' in
      let n = length-take-le k file (omega arith) in
      let w = z.body_whole in
      let w' = z'.body_whole in
      let i : ℕ = length body' / 16 in
      let moved : block i (take k file) ≡ block i file =
      ap (take 16) (drop-drop (16 * i) 152 (take k file))
      ∙ part_of 16 (152 + 16 * i) k file (omega arith)
      ∙ ap (take 16) (sym (drop-drop (16 * i) 152 file)) in
      within pass file salt iter K L iv body z i (omega arith) (sym moved ∙ behind pass' (take k file) salt' iter' K' L' iv' body' z')
