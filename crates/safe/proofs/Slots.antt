-- Parts laid into a slice: what stands where, by what is taken and dropped.
use Prim.Native.Nat.{ℕ, ◌+◌, ◌-◌, ◌≤◌}
use mathlib.Core.Path.{◌≡◌, refl, sym, ap, ap₂, ◌∙◌}
use mathlib.Core.List.{List, ◌++◌, append_assoc}
use native.Mathlib.Omega.{arith}
use lib.ListN.{length, take, drop, length-drop}
use lib.Seq.{take_at, drop-append-add, drop-drop, length-take-le}
use Rattle.words.specs.Slices.{zeros, copied}
use Rattle.words.proofs.SliceLaws.{copied_over}
use Rattle.words.proofs.ByteLaws.{drop_same}

-- a part p laid on zeros behind what is laid already; r' zeros are left
pub laid : (pre p : List ℕ) (r r' : ℕ) {at : ℕ} {before after : List ℕ} → at ≡ length pre → r ≡ length p + r' → before ≡ pre ++ zeros r
    → after ≡ take at before ++ (p ++ drop (at + length p) before) → after ≡ (pre ++ p) ++ zeros r'
laid pre p r r' {at = at} h k b e =
    let z : r - length p ≡ r' = omega arith in
    let d : drop (length p) (zeros r) ≡ zeros r' = drop_same 0 (length p) r (omega arith) ∙ ap zeros z in
    e
    ∙ ap₂ (λ (x y : List ℕ). x ++ (p ++ y))
    (ap₂ take h b ∙ take_at pre (zeros r) (length pre) refl)
    (ap₂ (λ (n : ℕ) (l : List ℕ). drop (n + length p) l) h b ∙ drop-append-add pre (zeros r) (length p) ∙ d)
    ∙ sym (append_assoc pre p (zeros r'))

-- the part laid by a copy
pub lay_is : (at : ℕ) (out part new : List ℕ) → at + length part ≤ length out → new ≡ copied (take (at + length part - at) (drop at out)) part
    → take at out ++ (new ++ drop (at + length part - at) (drop at out)) ≡ take at out ++ (part ++ drop (at + length part) out)
lay_is at out part new h e =
    let k : at + length part - at ≡ length part = omega arith in
    let d = length-drop at out in
    let l = length-take-le (length part) (drop at out) (omega arith) in
    ap₂ (λ (x y : List ℕ). take at out ++ (x ++ y))
    (e ∙ ap (λ (n : ℕ). copied (take n (drop at out)) part) k ∙ copied_over (take (length part) (drop at out)) part l)
    (ap (λ (n : ℕ). drop n (drop at out)) k ∙ drop-drop (length part) at out)
