-- talc_find: its answer is four numbers: 1, the record's number, the place of its first field, and how many fields were visited.
use Rattle.std.specs.Prelude.{ℕ, ◌^◌, ◌<◌, ◌≡◌, List, [], ◌∷◌, ◌++◌, length, take, drop}
use Rattle.words.specs.Numbers.{Bytes, Sized, number_low}
use Rattle.fields.specs.Value.{uuid_in}
use Rattle.body.specs.Find.{find_of, find_number, find_values}
use Rattle.body.specs.declared.Found.{Found}
use Rattle.talcfeather.specs.Numbers.{with_zeros, marked, in_bytes}

-- the first three are zero where there is none, and where refused
abbrev pub find_numbers : Found → List ℕ
find_numbers f = with_zeros 3 (marked (find_values f.sought)) ++ (f.visited ∷ [])

abbrev pub number_found : Found → ℕ
number_found f = find_number f.sought

-- a UUID is sought by its halves, as it is stored: bytes 0 to 7 and bytes 8 to 15
unfoldable pub found_of : List ℕ → List ℕ → Found
found_of body uuid = find_of body (uuid_in uuid).low (uuid_in uuid).high

-- of a UUID of 16 bytes
pub record TalcFind (body uuid : List ℕ) (number : ℕ) (answer : List ℕ) : Type 0 where
  pub bytes : Bytes body
  pub short : length body < 2 ^ 64
  pub sized : Sized 16 uuid
  pub is_number : number ≡ number_found (found_of body uuid)
  pub is_answer : answer ≡ in_bytes (find_numbers (found_of body uuid))

-- the count that an answer tells: the number at 24
abbrev pub told_visited : List ℕ → ℕ
told_visited answer = number_low (take 8 (drop 24 answer))
