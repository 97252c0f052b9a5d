-- The answers of reading and writing by document 01's numbers, and their values.
use Rattle.std.specs.Prelude.{ℕ, List, Result, Ok, Err}
use Rattle.words.specs.Slices.{zeros}
use Rattle.body.specs.declared.Counts.{Counts}
use Rattle.file.specs.Reading.{Report}
use Rattle.safe.specs.declared.Refusal.{Refusal}
use Rattle.safe.specs.declared.Refusal.TheVariants.{Length, Passphrase, Room, Tag, Floor, Ceiling, Marker, Check, Body, Block}
use Rattle.safe.specs.declared.Opened.{Opened}
use Rattle.safe.specs.declared.Reading.{Reading}

abbrev pub refusal_number : Refusal → ℕ
refusal_number Length = 1
refusal_number Passphrase = 2
refusal_number Room = 3
refusal_number Tag = 4
refusal_number Floor = 5
refusal_number Ceiling = 6
refusal_number Marker = 7
refusal_number Check = 8
refusal_number Body = 9
refusal_number Block = 10

-- 0 where nothing is refused
abbrev pub answer_number : {A : Type 0} → Result A Refusal → ℕ
answer_number (Ok a) = 0
answer_number (Err x) = refusal_number x

-- the keys and the counts of header fields and records; zero where refused, since then there are none
abbrev pub k_given : Result Opened Refusal → List ℕ
k_given (Ok o) = o.keys.k
k_given (Err x) = zeros 32

abbrev pub l_given : Result Opened Refusal → List ℕ
l_given (Ok o) = o.keys.l
l_given (Err x) = zeros 32

abbrev pub header_count : Result Opened Refusal → ℕ
header_count (Ok o) = o.counts.headers
header_count (Err x) = 0

abbrev pub record_count : Result Opened Refusal → ℕ
record_count (Ok o) = o.counts.records
record_count (Err x) = 0

-- the outcome without the keys
abbrev pub counted : Result Opened Refusal → Result Counts Refusal
counted (Ok o) = Ok o.counts
counted (Err x) = Err x

-- a reading's answer and the body that the workspace then holds, as a report
unfoldable pub reported : Reading → List ℕ → Report
reported r body =
    record {
      number = answer_number r.outcome;
      key_k = k_given r.outcome;
      key_l = l_given r.outcome;
      headers = header_count r.outcome;
      records = record_count r.outcome;
      compressions = r.compressions;
      blocks = r.blocks;
      body = body;
    }
