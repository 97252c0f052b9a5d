-- From the start the walk by any values visits each field of a body once, in order, with its place and its value, and ends: by recursion on the fields, each of which the walk gives back.
use Prim.Native.Nat.{ℕ, ◌+◌, ◌%◌}
use mathlib.Core.Path.{◌≡◌, refl, sym, ap, subst, ◌∙◌}
use mathlib.Core.Bool.{Bool, true, false, not, ◌&&◌, ◌||◌}
use mathlib.Core.List.{List, [], ◌∷◌, ◌++◌, append_assoc, append-nil}
use native.Mathlib.Omega.{arith}
use lib.Dec.{eqb}
use lib.ListN.{length, length-append}
use borrow.Author.Tests.{eq-eqb, eqb-true}
use Rattle.std.proofs.Common.{Some, None, Ok}
use Rattle.words.specs.Each.{Each}
use Rattle.fields.specs.Stored.{Stored, bytes_of, room_of}
use Rattle.fields.specs.Step.{start, end_with_data}
use Rattle.fields.specs.Walk.{ValueFunction, walk_by}
use Rattle.fields.specs.declared.Cursor.{Cursor}
use Rattle.fields.specs.declared.Field.{Field}
use Rattle.fields.proofs.Outcomes.{at_end}
use Rattle.fields.proofs.Valued.{valued}
use Rattle.fields.proofs.Back.{shown, walk_stored}
use Rattle.body.specs.Division.{Whole, joined, Divides}
use Rattle.body.proofs.Division.{whole_fill}

-- the walk from a cursor on: the fields that it takes, then the end
pub data Visits (v : ValueFunction) (s : List ℕ) : Cursor → List Field → Type 0 where
  ends : {c : Cursor} → walk_by v s c ≡ Ok None → Visits v s c []
  takes : {c d : Cursor} {f : Field} {fs : List Field} → walk_by v s c ≡ Ok (Some (f, d)) → Visits v s d fs → Visits v s c (f ∷ fs)

-- the stored fields as the walk shows them, from place p on
abbrev pub shown_from : ValueFunction → Bool → ℕ → List Stored → List Field
shown_from v r p [] = []
shown_from v r p (f ∷ fs) = shown v r p f ∷ shown_from v (r || eqb f.kind 0xff) (p + room_of (length f.content)) fs

-- an END without data
abbrev EmptyEnd : Stored → Type 0
EmptyEnd f = f.kind ≡ 0xff → length f.content ≡ 0

no_data : (f : Stored) → EmptyEnd f → end_with_data f.kind (length f.content) ≡ false
no_data f h = by (eqb f.kind 0xff) refl
  where
    by : (b : Bool) → eqb f.kind 0xff ≡ b → (b && not (eqb (length f.content) 0)) ≡ false
    by true e = rw (eq-eqb (length f.content) 0 (h (eqb-true f.kind 0xff e)))
    by false e = refl

from : (v : ValueFunction) (a : List ℕ) (fs : List Stored) (s : List ℕ) (r : Bool) → length a % 16 ≡ 0 → Each Whole fs → Each EmptyEnd fs → s ≡ a ++ joined fs
    → Visits v s (record { place = length a; in_record = r }) (shown_from v r (length a) fs)
from v a [] s r al w n e = ends (valued v s _ _ (at_end s _ al (sym (ap length (e ∙ append-nil a)))))
from v a (f ∷ fs) s r al w n e =
    let far : length (a ++ bytes_of f) ≡ length a + room_of (length f.content) = rw (length-append a (bytes_of f), w.0.blocks) in
    let took = walk_stored v a f (joined fs) r al w.0.short (whole_fill f w.0) (no_data f n.0) in
    let r' = r || eqb f.kind 0xff in
    let rest = from v (a ++ bytes_of f) fs s r' (omega arith) w.1 n.1 (e ∙ sym (append_assoc a (bytes_of f) (joined fs))) in
    takes (ap (λ (l : List ℕ). walk_by v l (record { place = length a; in_record = r })) e ∙ took)
    (subst (λ (m : ℕ). Visits v s (record { place = m; in_record = r' }) (shown_from v r' m fs)) far rest)

pub visits : (v : ValueFunction) (s : List ℕ) (fs : List Stored) → Divides s fs → Each (λ f. f.kind ≡ 0xff → length f.content ≡ 0) fs
    → Visits v s start (shown_from v false 0 fs)
visits v s fs d n = from v [] fs s false refl d.whole n d.parts
