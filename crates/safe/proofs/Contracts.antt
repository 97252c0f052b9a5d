-- What a contract leaves open: nothing. The number and the values of an answer tell the answer, by its cases; so two calls with one report have one answer.
use Prim.Native.Nat.{ℕ}
use mathlib.Core.Path.{◌≡◌, refl, sym, ap, ap₂, ◌∙◌, subst}
use mathlib.Core.Bool.{cond}
use mathlib.Core.List.{List}
use lib.Dec.{eqb}
use lib.ListN.{length}
use Rattle.words.specs.Slices.{zeros}
use Rattle.std.specs.Prelude.{Result, Ok, Err}
use Rattle.file.specs.Reading.{Report, workspace_of}
use Rattle.safe.specs.Answers.{refusal_number, answer_number, k_given, l_given, header_count, record_count, reported}
use Rattle.safe.specs.Calls.{Reports}
use Rattle.safe.specs.declared.Refusal.{Refusal}
use Rattle.safe.specs.declared.Refusal.TheVariants.{Length, Passphrase, Room, Tag, Floor, Ceiling, Marker, Check, Body, Block}
use Rattle.safe.specs.declared.Opened.{Opened}
use Rattle.safe.specs.declared.Reading.{Reading}

-- the refusal of a number
abbrev pub refusal_of : ℕ → Refusal
refusal_of n =
    cond (eqb n 1) Length (cond (eqb n 2) Passphrase (cond (eqb n 3) Room (cond (eqb n 4) Tag (cond (eqb n 5) Floor
    (cond (eqb n 6) Ceiling (cond (eqb n 7) Marker (cond (eqb n 8) Check (cond (eqb n 9) Body Block))))))))

-- an answer that refuses, by its number
refused_said : {A : Type 0} (done : A) (refuse : Refusal → A) (x : Refusal) → cond (eqb (refusal_number x) 0) done (refuse (refusal_of (refusal_number x))) ≡ refuse x
refused_said done refuse Length = refl
refused_said done refuse Passphrase = refl
refused_said done refuse Room = refl
refused_said done refuse Tag = refl
refused_said done refuse Floor = refl
refused_said done refuse Ceiling = refl
refused_said done refuse Marker = refl
refused_said done refuse Check = refl
refused_said done refuse Body = refl
refused_said done refuse Block = refl

-- ---- reading

abbrev pub opened : (K L : List ℕ) → ℕ → ℕ → Opened
opened K L h m = record { keys = record { k = K; l = L }; counts = record { headers = h; records = m } }

abbrev outcome_of : ℕ → (K L : List ℕ) → ℕ → ℕ → Result Opened Refusal
outcome_of n K L h m = cond (eqb n 0) (Ok (opened K L h m)) (Err (refusal_of n))

outcome_said : (o : Result Opened Refusal) → outcome_of (answer_number o) (k_given o) (l_given o) (header_count o) (record_count o) ≡ o
outcome_said (Ok o) = refl
outcome_said (Err x) = refused_said (Ok (opened (zeros 32) (zeros 32) 0 0)) Err x

-- the answer that a report tells
abbrev reading_by : Report → Reading
reading_by t =
    record {
      outcome = outcome_of t.number t.key_k t.key_l t.headers t.records;
      compressions = t.compressions;
      blocks = t.blocks;
    }

reading_said : (r : Reading) (body : List ℕ) → reading_by (reported r body) ≡ r
unfolding reported
reading_said r body = λ i. record { outcome = outcome_said r.outcome i; compressions = r.compressions; blocks = r.blocks }

-- two answers of one report
pub same_reading : {report : Report} {before before' after after' : List ℕ} {r r' : Reading} → Reports report before after r → Reports report before' after' r' → r ≡ r'
same_reading {report} {r = r} {r' = r'} c c' =
    sym (reading_said r report.body) ∙ ap reading_by (c.answer ∙ sym c'.answer) ∙ reading_said r' report.body

-- two calls whose reports and whose workspaces' lengths are equal
pub one_report : {report report' : Report} {before before' after after' : List ℕ} {r r' : Reading} → Reports report before after r → Reports report' before' after' r'
    → report ≡ report' → length before ≡ length before' → (r ≡ r') × (after ≡ after')
one_report {before' = before'} {after' = after'} {r' = r'} c c' e l = (
  same_reading c (subst (λ (t : Report). Reports t before' after' r') (sym e) c'),
  c.memory ∙ ap₂ workspace_of l e ∙ sym c'.memory,
)

-- the parts of the answer are those of the report
module _ {report : Report} {before after : List ℕ} {r : Reading} (c : Reports report before after r) where
  pub number_is : answer_number r.outcome ≡ report.number
  unfolding reported
  number_is = ap (λ (t : Report). t.number) c.answer

  pub k_is : k_given r.outcome ≡ report.key_k
  unfolding reported
  k_is = ap (λ (t : Report). t.key_k) c.answer

  pub l_is : l_given r.outcome ≡ report.key_l
  unfolding reported
  l_is = ap (λ (t : Report). t.key_l) c.answer

  pub headers_are : header_count r.outcome ≡ report.headers
  unfolding reported
  headers_are = ap (λ (t : Report). t.headers) c.answer

  pub records_are : record_count r.outcome ≡ report.records
  unfolding reported
  records_are = ap (λ (t : Report). t.records) c.answer

  pub compressions_are : r.compressions ≡ report.compressions
  unfolding reported
  compressions_are = ap (λ (t : Report). t.compressions) c.answer

  pub blocks_are : r.blocks ≡ report.blocks
  unfolding reported
  blocks_are = ap (λ (t : Report). t.blocks) c.answer

-- ---- writing

abbrev written_by : ℕ → Result Unit Refusal
written_by n = cond (eqb n 0) (Ok tt) (Err (refusal_of n))

written_said : (w : Result Unit Refusal) → written_by (answer_number w) ≡ w
written_said (Ok u) = refl
written_said (Err x) = refused_said (Ok tt) Err x

pub written_told : (w w' : Result Unit Refusal) → answer_number w ≡ answer_number w' → w ≡ w'
written_told w w' e = sym (written_said w) ∙ ap written_by e ∙ written_said w'
