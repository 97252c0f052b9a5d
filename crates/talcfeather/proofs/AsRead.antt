-- What `talc_read` and `talc_write` leave is what some answer of `read` and `write` is laid out to, since the contracts speak of the same report.
use Prim.Native.Nat.{ℕ}
use mathlib.Core.Path.{◌≡◌, sym, ap, ◌∙◌}
use mathlib.Core.List.{List, ◌++◌}
use Rattle.file.specs.Reading.{Report}
use Rattle.std.specs.Prelude.{Result}
use Rattle.safe.specs.Answers.{answer_number, k_given, l_given, reported}
use Rattle.safe.specs.declared.Reading.{Reading}
use Rattle.safe.specs.declared.Refusal.{Refusal}
use Rattle.safe.specs.Calls.{number_of, Reads, Writes}
use Rattle.safe.proofs.Told.{a_reading, a_writing}
use Rattle.talcfeather.specs.Numbers.{in_bytes}
use Rattle.talcfeather.specs.Read.{TalcRead, answer_bytes, numbers_given}
use Rattle.talcfeather.specs.Write.{TalcWrite}

-- K, L, the counts of header fields and records, and the two counts of work, in bytes
abbrev pub answer_of : Reading → List ℕ
answer_of r = k_given r.outcome ++ (l_given r.outcome ++ in_bytes (numbers_given r))

pub record AsRead (file passphrase : List ℕ) (ceiling : ℕ) (before : List ℕ) (number : ℕ) (workspace answer : List ℕ) : Type 0 where
  pub r : Reading
  pub reads : Reads file passphrase ceiling before workspace r
  pub number_is : number ≡ number_of r
  pub answer_is : answer ≡ answer_of r

pub as_read : {file passphrase before workspace answer : List ℕ} {ceiling n : ℕ} → TalcRead file passphrase ceiling before n workspace answer
    → AsRead file passphrase ceiling before n workspace answer
unfolding reported answer_bytes
as_read {file} {passphrase} {before} {ceiling = ceiling} c =
    let a = a_reading file passphrase ceiling before in
    let e = a.1.answer in
    record {
      r = a.0;
      reads = record { bytes = c.bytes; reports = record { answer = e; memory = c.is_workspace } };
      number_is = c.is_number ∙ sym (ap (λ (t : Report). t.number) e);
      answer_is = c.is_answer ∙ sym (ap answer_bytes e);
    }

pub as_written : {passphrase salt K L iv body before output : List ℕ} {iter n : ℕ} → TalcWrite passphrase salt iter K L iv body before n output
    → (r : Result Unit Refusal) × Writes passphrase salt iter K L iv body before output r × (n ≡ answer_number r)
as_written {passphrase} {salt} {K} {L} {iv} {body} {iter = iter} c =
    let a = a_writing passphrase salt iter K L iv body _ in
    (a.0, record { values = c.values; number = a.1; output = c.is_output }, c.is_number ∙ sym a.1)
