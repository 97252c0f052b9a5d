-- What an export comes to, of a body that is well formed and of one that is not; and from what the tests on the way to its answer say.
use Prim.Native.Nat.{ℕ, ◌*◌, ◌/◌, ◌^◌, ◌<◌, ◌≤◌}
use mathlib.Core.Path.{◌≡◌, refl, sym, ap, ◌∙◌}
use mathlib.Core.Bool.{Bool, true, false, cond}
use mathlib.Core.List.{List}
use native.Mathlib.Omega.{arith}
use lib.ListN.{length}
use borrow.Author.Tests.{lt-ltb, le-ltb}
use Rattle.std.specs.Prelude.{Result, Ok, Err}
use Rattle.words.specs.Numbers.{Bytes}
use Rattle.body.specs.Decision.{is_well_formed, with_counts, not_well_formed, headers_of, records_of, judged_of}
use Rattle.body.specs.declared.Counts.{Counts}
use Rattle.body.specs.declared.NotWellFormed.{NotWellFormed}
use Rattle.logins.specs.Export.{body_records, checked_from, room_for, or_room, export_of, Exports}
use Rattle.logins.specs.declared.Fault.{Fault}
use Rattle.logins.specs.declared.ExportRefusal.{ExportRefusal}
use Rattle.logins.specs.declared.ExportRefusal.TheVariants as refusal

pub export_formed : (s : List ℕ) (m : ℕ) → is_well_formed s ≡ true → export_of s m ≡ or_room (checked_from 0 (body_records s)) (room_for m (length (body_records s)))
unfolding export_of
export_formed s m f = rw f

pub export_not : (s : List ℕ) (m : ℕ) → is_well_formed s ≡ false → export_of s m ≡ Err refusal.NotWellFormed
unfolding export_of
export_not s m f = rw f

-- ---- on the way
pub refused : (s b : List ℕ) (t : ℕ) (r : Result ℕ ExportRefusal) (e : ExportRefusal) → Bytes s → t < 2 ^ 32 → r ≡ Err e → Err e ≡ export_of s (length b) → Exports s t b r b
refused s b t r e h l i j = rw i (record { bytes = h; small = l; is_answer = j; is_after = refl })

module _ (s : List ℕ) where
  pub judged_not : (x : NotWellFormed) → Err x ≡ judged_of s → (m : ℕ) → Err refusal.NotWellFormed ≡ export_of s m
  unfolding judged_of
  judged_not x e m = by (is_well_formed s) refl e
    where
      by : (b : Bool) → is_well_formed s ≡ b → Err x ≡ cond b (with_counts (headers_of s) (records_of s)) (Err not_well_formed) → Err refusal.NotWellFormed ≡ export_of s m
      by true h e = absurd (cc)
      by false h e = sym (export_not s m h)

  module _ (c : Counts) (e : Ok c ≡ judged_of s) where
    pub judged_formed : is_well_formed s ≡ true
    unfolding judged_of
    judged_formed = by (is_well_formed s) e
      where
        by : (b : Bool) → Ok c ≡ cond b (with_counts (headers_of s) (records_of s)) (Err not_well_formed) → b ≡ true
        by true e = refl
        by false e = absurd (cc)

    pub judged_many : c.records ≡ length (body_records s)
    unfolding judged_of
    judged_many =
        let i : Ok c ≡ with_counts (headers_of s) (records_of s) = e ∙ rw judged_formed in
        let j : ◌≡◌ {A = Counts} c (record { headers = headers_of s; records = records_of s }) = cc in
        ap (λ (x : Counts). x.records) j

    checked : (k : Result Unit Fault) → k ≡ checked_from 0 (body_records s) → (m : ℕ) → export_of s m ≡ or_room k (room_for m c.records)
    checked k i m = export_formed s m judged_formed ∙ rw (← i, ← judged_many)

    pub found : (f : Fault) → Err f ≡ checked_from 0 (body_records s) → (m : ℕ) → Err (refusal.Faulty f) ≡ export_of s m
    found f i m = sym (checked (Err f) i m)

    module _ (i : Ok tt ≡ checked_from 0 (body_records s)) (m : ℕ) where
      pub no_room : m / 256 < c.records → Err refusal.NoRoom ≡ export_of s m
      no_room l = sym (checked (Ok tt) i m ∙ ap (λ (b : Bool). cond b (Err refusal.NoRoom) (Ok c.records)) (lt-ltb m (256 * c.records) (omega arith)))

      pub has_room : c.records ≤ m / 256 → Ok c.records ≡ export_of s m
      has_room l = sym (checked (Ok tt) i m ∙ ap (λ (b : Bool). cond b (Err refusal.NoRoom) (Ok c.records)) (le-ltb m (256 * c.records) (omega arith)))
