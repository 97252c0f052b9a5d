-- `talcfeather::find::talc_find` meets its contract: number and answer are those of `body::find`.
use mathlib.Core.Path.{ap, ◌∙◌}
use native.Mathlib.Omega.{arith}
use Rattle.words.proofs.ByteLaws.{bytes_of}
use Rattle.fields.specs.declared.value.Uuid.{Uuid}
use Rattle.body.specs.Find.{find_of}
use Rattle.body.specs.declared.Found.{Found}
use Rattle.talcfeather.specs.Numbers.{in_bytes}
use Rattle.talcfeather.specs.Find.{find_numbers, number_found, found_of}
use Rattle.talcfeather.proofs.find.talc_find.Goals as goal

pub returns : goal.returns
unfolding found_of
returns c =
    let a = c.args in
    let is_found = c.find.ensures.0 ∙ ap (λ (u : Uuid). find_of a.body.now u.low u.high) c.read.ensures in
    record {
      bytes = c.find.ensures.1;
      short = c.well_formed.0.0;
      sized = record { long = omega arith; bytes = bytes_of a.uuid.now (λ i. omega arith) };
      is_number = c.told.ensures.0 ∙ ap number_found is_found;
      is_answer = c.told.ensures.1 ∙ ap (λ (f : Found). in_bytes (find_numbers f)) is_found;
    }
