-- The answers of writing: an early refusal, or what the laying out comes to. By the table of tests, of which the last follows the others.
use Prim.Native.Nat.{ℕ, ◌+◌, ◌/◌, ◌^◌, ◌<◌}
use mathlib.Core.Path.{◌≡◌, refl, sym, ap, ◌∙◌}
use mathlib.Core.Bool.{not}
use mathlib.Core.List.{List, [], ◌∷◌}
use native.Mathlib.Omega.{arith}
use borrow.Author.Tests.{not-false, ltb-false}
use lib.ListN.{length, length-replicate}
use Rattle.std.specs.Prelude.{Result, Ok, Err}
use Rattle.words.specs.Numbers.{Bytes}
use Rattle.words.specs.Slices.{zeros}
use Rattle.body.specs.Decision.{is_well_formed}
use Rattle.file.specs.Refusals.{Test, deciding, refuse_if}
use Rattle.file.specs.Description.{cbc}
use Rattle.file.specs.Writing.{Writing, unwritten, clear, early_write_tests, write_tests, written, writing_of, Values as WrittenUnder}
use Rattle.file.proofs.Tables.{Decided, passes, stops, decide, first_between, by_zero, by_number, deciding_append}
use Rattle.file.proofs.Written.{good_body}
use Rattle.safe.specs.V3.{v3, v3_edition}
use Rattle.safe.specs.Answers.{refusal_number, answer_number}
use Rattle.safe.specs.Steps.{early_writing}
use Rattle.safe.specs.Laying.{Blank, Laid}
use Rattle.safe.specs.declared.Refusal.{Refusal}
use Rattle.safe.specs.declared.assemble.Values.{Values}
use Rattle.safe.proofs.Verdicts.{positive}

-- an array of n bytes, by what a call says of it
abbrev Array : ℕ → List ℕ → Type 0
Array n s = (length s ≡ n) × Bytes s

pub values_of : {salt : List ℕ} {iter : ℕ} {K L iv body : List ℕ} → Array 32 salt → iter < 2 ^ 32 → Array 32 K → Array 32 L → Array 16 iv → Bytes body
    → WrittenUnder salt iter K L iv body
values_of s i k l v b =
    record {
      salt_sized = record { long = s.0; bytes = s.1 };
      iter_fits = i;
      K_sized = record { long = k.0; bytes = k.1 };
      L_sized = record { long = l.0; bytes = l.1 };
      iv_sized = record { long = v.0; bytes = v.1 };
      body_bytes = b;
    }

module _ (pass : List ℕ) (iter : ℕ) (body : List ℕ) (room : ℕ) where
  abbrev early : List Test
  early = early_write_tests v3 (is_well_formed body) pass iter body room

  -- what the early tests leave for the laying out
  pub blank : {t : Result Unit Refusal} {zeroed : List ℕ} → answer_number t ≡ early_writing pass iter body room → t ≡ Ok tt → zeroed ≡ zeros room → Blank body zeroed
  unfolding early_write_tests v3
  blank {zeroed = zeroed} e f z = go (decide (λ (n : ℕ). n) 0 early) (sym (ap answer_number f) ∙ e)
    where
      go : Decided (λ (n : ℕ). n) early 0 → 0 ≡ early_writing pass iter body room → Blank body zeroed
      go (passes t q) g =
          let l = good_body (length body) t.0 in
          let n : length zeroed ≡ room = ap length z ∙ length-replicate room 0 in
          let r = ltb-false room (length body + 200) t.1.1.0 in
          record { blank = z ∙ ap zeros (sym n); holds = omega arith; whole = omega arith; fine = not-false (is_well_formed body) t.1.1.1.1.0 }
      go (stops k h q) g = let b = first_between 1 9 k {ts = early} refl h in absurd (omega arith)

  module _ (salt K L iv : List ℕ) where
    abbrev writing : Writing
    writing = writing_of v3_edition pass salt iter K L iv body room

    -- what the last test decides
    abbrev decided : Writing
    decided =
        deciding (λ (k : ℕ). unwritten k room) (refuse_if 10 (not (clear (length body / 16) (cbc v3 K iv body))) ∷ [])
        (written v3_edition pass salt iter K L iv body room)

    apart : writing ≡ deciding (λ (k : ℕ). unwritten k room) early decided
    unfolding writing_of write_tests
    apart =
        deciding_append (λ (k : ℕ). unwritten k room) early (refuse_if 10 (not (clear (length body / 16) (cbc v3 K iv body))) ∷ [])
        (written v3_edition pass salt iter K L iv body room)

    pub writes_refused : (x : Refusal) {t : Result Unit Refusal} {out : List ℕ} → answer_number t ≡ early_writing pass iter body room → t ≡ Err x → out ≡ zeros room
        → (refusal_number x ≡ writing.number) × (out ≡ writing.output)
    unfolding early_write_tests v3 unwritten
    writes_refused x e f z =
        let g : refusal_number x ≡ early_writing pass iter body room = sym (ap answer_number f) ∙ e in
        let w = apart ∙ by_number (λ (k : ℕ). unwritten k room) decided 9 early refl g (positive x) in
        (sym (ap (λ (y : Writing). y.number) w), z ∙ sym (ap (λ (y : Writing). y.output) w))

    passed : {t : Result Unit Refusal} → answer_number t ≡ early_writing pass iter body room → t ≡ Ok tt → writing ≡ decided
    unfolding early_write_tests v3
    passed e f =
        let g : 0 ≡ early_writing pass iter body room = sym (ap answer_number f) ∙ e in
        apart ∙ by_zero (λ (k : ℕ). unwritten k room) decided 9 early refl g refl

pub writes_laid : (v : Values) (body : List ℕ) (room : ℕ) {t : Result Unit Refusal} {n k : ℕ} {out : List ℕ}
    → answer_number t ≡ early_writing v.passphrase.now v.iter body room → t ≡ Ok tt → n ≡ room → Laid v body n k out
    → let w = writing_of v3_edition v.passphrase.now v.salt.now v.iter v.k.now v.l.now v.iv.now body room in
    (k ≡ w.number) × (out ≡ w.output)
writes_laid v body room {k = k} {out = out} e f m x =
    let w = passed v.passphrase.now v.iter body room v.salt.now v.k.now v.l.now v.iv.now e f in
    let y : Laid v body room k out = rw m at x in
    (y.is_number ∙ sym (ap (λ (y : Writing). y.number) w), y.is_output ∙ sym (ap (λ (y : Writing). y.output) w))
