-- Every report of a reading and every writing is some answer's: the refusals have all the numbers that a reading or a writing can end in.
use Prim.Native.Nat.{ℕ, suc, ◌-◌, ◌≤◌}
use mathlib.Core.Path.{◌≡◌, refl, sym, ap, ◌∙◌}
use mathlib.Core.Bool.{Bool, true, false}
use mathlib.Core.List.{List}
use native.Mathlib.Omega.{arith}
use lib.Dec.{eqb, eqb→eq}
use lib.ListN.{length}
use borrow.Author.Tests.{eqb-true, eqb-false}
use Rattle.words.proofs.Every.{every}
use Rattle.std.specs.Prelude.{Result, Ok, Err}
use Rattle.file.specs.Reading.{Report, refused, workspace_of, reading_of}
use Rattle.file.specs.Writing.{writing_of, write_tests}
use Rattle.file.proofs.Ends as Ends
use Rattle.file.proofs.Tables.{first_between}
use Rattle.safe.specs.V3.{v3, v3_edition}
use Rattle.safe.specs.Answers.{refusal_number, answer_number, k_given, l_given, header_count, record_count, reported}
use Rattle.safe.specs.Calls.{Reports}
use Rattle.safe.specs.declared.Opened.{Opened}
use Rattle.safe.specs.declared.Refusal.{Refusal}
use Rattle.safe.specs.declared.Reading.{Reading}
use Rattle.safe.proofs.Contracts.{refusal_of, opened}

-- the refusal of a number of 1 to 10 has that number: one computed test
numbered : (k : ℕ) → 1 ≤ k → k ≤ 10 → refusal_number (refusal_of k) ≡ k
numbered k a b =
    let p : suc (k - 1) ≡ k = omega arith in
    let e = eqb→eq _ _ (every (λ (n : ℕ). eqb (refusal_number (refusal_of (suc n))) (suc n)) 10 tt (k - 1) (omega arith)) in
    ap (λ (n : ℕ). refusal_number (refusal_of n)) (sym p) ∙ e ∙ p

-- the answer of a report, where its outcome has the report's number, keys and counts
abbrev answer : Report → Result Opened Refusal → Reading
answer t o = record { outcome = o; compressions = t.compressions; blocks = t.blocks }

answers : (t : Report) (o : Result Opened Refusal) → answer_number o ≡ t.number → k_given o ≡ t.key_k → l_given o ≡ t.key_l
    → header_count o ≡ t.headers → record_count o ≡ t.records → reported (answer t o) t.body ≡ t
unfolding reported
answers t o p k l q s =
    λ i. record { number = p i; key_k = k i; key_l = l i; headers = q i; records = s i; compressions = t.compressions; blocks = t.blocks; body = t.body }

module _ (file passphrase : List ℕ) (ceiling : ℕ) (before : List ℕ) where
  abbrev t : Report
  t = reading_of v3_edition file passphrase ceiling (length before)

  by_number : (b : Bool) → eqb t.number 0 ≡ b → (r : Reading) × Reports t before (workspace_of (length before) t) r
  unfolding refused
  by_number true e = (answer t (Ok (opened t.key_k t.key_l t.headers t.records)), record { answer = answers t _ (sym (eqb-true _ _ e)) refl refl refl refl; memory = refl })
  by_number false e =
      let n = eqb-false t.number 0 e in
      let d = Ends.bare v3_edition file passphrase ceiling (length before) n in
      let m = Ends.nine_most v3_edition file passphrase ceiling (length before) in
      let one : 1 ≤ t.number = omega (arith, n) in (
        answer t (Err (refusal_of t.number)),
        record {
          answer = answers t _ (numbered t.number one (omega arith)) (sym (ap (λ (u : Report). u.key_k) d)) (sym (ap (λ (u : Report). u.key_l) d))
              (sym (ap (λ (u : Report). u.headers) d)) (sym (ap (λ (u : Report). u.records) d));
          memory = refl;
        },
      )

  pub a_reading : (r : Reading) × Reports t before (workspace_of (length before) t) r
  a_reading = by_number (eqb t.number 0) refl

module _ (passphrase salt : List ℕ) (iter : ℕ) (K L iv body : List ℕ) (room : ℕ) where
  abbrev n : ℕ
  n = (writing_of v3_edition passphrase salt iter K L iv body room).number

  done_or_not : (b : Bool) → eqb n 0 ≡ b → (r : Result Unit Refusal) × (answer_number r ≡ n)
  done_or_not true e = (Ok tt, sym (eqb-true _ _ e))
  done_or_not false e =
      let w = Ends.write_told v3_edition passphrase salt iter K L iv body room (eqb-false n 0 e) in
      let b = first_between 1 10 n {ts = write_tests v3 (v3_edition.is_well_formed body) passphrase iter K iv body room} (Ends.write_between v3_edition passphrase salt iter K L iv body room) w.0 in
      (Err (refusal_of n), numbered n b.0 b.1)

  pub a_writing : (r : Result Unit Refusal) × (answer_number r ≡ n)
  a_writing = done_or_not (eqb n 0) refl
