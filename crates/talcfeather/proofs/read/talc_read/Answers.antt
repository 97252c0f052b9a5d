-- `talcfeather::read::talc_read` meets its contract: number, answer and workspace are those of `safe::read`.
use mathlib.Core.Path.{◌≡◌, ap, ◌∙◌}
use native.Mathlib.Omega.{arith}
use lib.ListN.{length, take}
use lib.Seq.{length-take-le}
use borrow.Author.Rules.{rules}
use Rattle.file.specs.Reading.{Report}
use Rattle.safe.specs.Answers.{k_given, l_given, reported}
use Rattle.talcfeather.specs.Numbers.{in_bytes}
use Rattle.talcfeather.specs.Read.{answer_bytes, numbers_given}
use Rattle.talcfeather.proofs.Keys.{keys_then}
use Rattle.talcfeather.proofs.read.talc_read.Goals as goal

pub returns : goal.returns
unfolding reported answer_bytes
returns c =
    let a = c.args.answer.now in
    let r = c.read-r.result in
    let said = c.read-r.ensures in
    let g : length c.lay_keys.new.answer ≡ length (take 64 a) = search rules in
    let keys : length c.lay_keys.new.answer ≡ 64 = g ∙ length-take-le 64 a (omega arith) in
    record {
      bytes = said.bytes;
      is_number = c.told.ensures.0 ∙ ap (λ (x : Report). x.number) said.reports.answer;
      is_workspace = said.reports.memory;
      is_answer = keys_then a (k_given r.outcome) (l_given r.outcome) (in_bytes (numbers_given r)) _ _ (omega arith) keys c.lay_keys.ensures c.told.ensures.1
          ∙ ap answer_bytes said.reports.answer;
    }
