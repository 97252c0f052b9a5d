-- The loop that takes a body's data in, field by field: what is taken in, with the data of the fields that are left, is all that the HMAC covers.
use Prim.Native.Nat.{ℕ, ◌+◌, ◌-◌, ◌≤◌}
use mathlib.Core.Path.{◌≡◌, sym, ap, ◌∙◌}
use mathlib.Core.List.{List, [], ◌++◌, append_assoc, append-nil}
use native.Mathlib.Omega.{arith}
use lib.ListN.{length, take, drop}
use Rattle.std.proofs.Common.{Some, Ok}
use Rattle.sha256.specs.Running.{mac_of, MacTakes}
use Rattle.sha256.specs.declared.hmac.Mac.{Mac}
use Rattle.fields.specs.Stored.{Stored}
use Rattle.fields.specs.Step.{start, len_at, data_at, step_of}
use Rattle.fields.specs.declared.Cursor.{Cursor}
use Rattle.fields.specs.declared.Taken.{Taken}
use Rattle.fields.proofs.Outcomes.{taken, forward}
use Rattle.body.specs.Sections.{covered}
use Rattle.body.specs.Decision.{taken_from, covered_of}
use Rattle.body.proofs.Along.{TakesNone, fold_took, fold_else}

-- At a cursor the state, which was h, is z.
pub record Fed (s : List ℕ) (h : Mac) (c : Cursor) (z : Mac) : Type 0 where
  gone : List ℕ
  takes : MacTakes h gone z
  rest : gone ++ covered (taken_from s c.place) ≡ covered_of s
  pub within : c.place ≤ length s

pub fed_start : (s : List ℕ) (h : Mac) (c : Cursor) → c ≡ start → Fed s h c h
fed_start s h c e =
    record {
      gone = [];
      takes = λ k m e. e ∙ ap (mac_of k) (sym (append-nil m));
      rest = ap (λ (c : Cursor). covered (taken_from s c.place)) e;
      within = omega (arith, ap (λ (c : Cursor). c.place) e);
    }

module _ (s : List ℕ) (h : Mac) (c : Cursor) (z : Mac) (x : Fed s h c z) where
  pub fed_next : (t : Taken) → step_of s c ≡ Ok (Some t) → {r : Mac} → MacTakes z (take (c.place + 5 + t.len - (c.place + 5)) (drop (c.place + 5) s)) r → Fed s h t.next r
  fed_next t e w =
      let n : c.place + 5 + t.len - (c.place + 5) ≡ len_at s c.place = omega (arith, (taken s c t e).len) in
      let is = ap (λ (k : ℕ). take k (drop (c.place + 5) s)) n in
      record {
        gone = x.gone ++ data_at s c.place;
        takes = λ k m e. w k (m ++ x.gone) (x.takes k m e) ∙ ap (λ (d : List ℕ). mac_of k ((m ++ x.gone) ++ d)) is ∙ ap (mac_of k) (append_assoc m x.gone (data_at s c.place));
        rest = append_assoc x.gone (data_at s c.place) (covered (taken_from s t.next.place))
            ∙ fold_took (λ (fs : List Stored). x.gone ++ covered fs) (covered_of s) s c x.rest t e;
        within = (forward s c t e).1;
      }

  pub fed_end : TakesNone s c → MacTakes h (covered_of s) z
  fed_end o k m e =
      x.takes k m e
      ∙ ap (λ (d : List ℕ). mac_of k (m ++ d)) (sym (append-nil x.gone) ∙ fold_else (λ (fs : List Stored). x.gone ++ covered fs) (covered_of s) s c x.rest o)
