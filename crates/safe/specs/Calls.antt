-- The contracts of `read` and `write`, and the words in which the demands speak of a file.
use Rattle.std.specs.Prelude.{ℕ, ◌+◌, ◌-◌, ◌/◌, ◌≤◌, ◌≡◌, Result, List, ◌++◌, length}
use Rattle.words.specs.Numbers.{Bytes, number_low}
use Rattle.words.specs.Slices.{zeros}
use Rattle.sha256.specs.Sha256.{sha256}
use Rattle.stretch.specs.Stretch.{start_of, stretched_of, key_of}
use Rattle.chain.specs.Decryption.{Decryption}
use Rattle.file.specs.Layout.{split}
use Rattle.file.specs.Reading.{Report, workspace_of, key_k, key_l, body_of, reading_of}
use Rattle.file.specs.Writing.{writing_of, Values}
use Rattle.safe.specs.V3.{v3, v3_edition}
use Rattle.safe.specs.Answers.{answer_number, k_given, l_given, reported}
use Rattle.safe.specs.declared.Refusal.{Refusal}
use Rattle.safe.specs.declared.Reading.{Reading}

-- What stands in a file (document 01, "The file, by offset"), and n, the blocks of its body.
abbrev pub salt_in : List ℕ → List ℕ
salt_in file = (split file).salt

abbrev pub iter_in : List ℕ → ℕ
iter_in file = number_low (split file).iter

abbrev pub check_in : List ℕ → List ℕ
check_in file = (split file).check

abbrev pub iv_in : List ℕ → List ℕ
iv_in file = (split file).iv

abbrev pub encrypted_in : List ℕ → List ℕ
encrypted_in file = (split file).encrypted

abbrev pub mac_in : List ℕ → List ℕ
mac_in file = (split file).mac

abbrev pub blocks_in : List ℕ → ℕ
blocks_in file = (length file - 200) / 16

-- P', and that a passphrase matches: SHA-256 of P' is the file's bytes 40 to 71.
abbrev pub stretched_in : (passphrase file : List ℕ) → List ℕ
stretched_in passphrase file = key_of (stretched_of (iter_in file) (start_of passphrase (salt_in file)))

abbrev pub Matching : (passphrase file : List ℕ) → Type 0
Matching passphrase file = sha256 (stretched_in passphrase file) ≡ check_in file

-- K and L as the keys' decryption gives them, and the state that the last block decrypted leaves: the text so far, and the count of the blocks that led there.
abbrev pub key_k_in : (passphrase file : List ℕ) → List ℕ
key_k_in passphrase file = key_k v3 (split file) (stretched_in passphrase file)

abbrev pub key_l_in : (passphrase file : List ℕ) → List ℕ
key_l_in passphrase file = key_l v3 (split file) (stretched_in passphrase file)

abbrev pub last_state : (passphrase file : List ℕ) → Decryption
last_state passphrase file = body_of v3 (split file) (stretched_in passphrase file) (blocks_in file)

-- the number of an answer, 0 where it is an acceptance; and the numbers 1 to 7, which come before any work
abbrev pub number_of : Reading → ℕ
number_of r = answer_number r.outcome

abbrev pub OneToSeven : ℕ → Type 0
OneToSeven n = (1 ≤ n) × (n ≤ 7)

abbrev pub OneToFour : ℕ → Type 0
OneToFour n = (1 ≤ n) × (n ≤ 4)

-- a reading reports, and the workspace holds, what a report says
pub record Reports (report : Report) (before after : List ℕ) (r : Reading) : Type 0 where
  pub answer : reported r report.body ≡ report
  pub memory : after ≡ workspace_of (length before) report

-- The contract of `read`: given a file, a passphrase, a ceiling and a workspace, it answered r and left the workspace as `after`.
pub record Reads (file passphrase : List ℕ) (ceiling : ℕ) (before after : List ℕ) (r : Reading) : Type 0 where
  pub bytes : Bytes file
  pub reports : Reports (reading_of v3_edition file passphrase ceiling (length before)) before after r

-- r is an acceptance with keys K and L, and the workspace holds the body and zeros after it
pub record Accepts (file before after : List ℕ) (r : Reading) (K L body : List ℕ) : Type 0 where
  pub number : number_of r ≡ 0
  pub gives_k : k_given r.outcome ≡ K
  pub gives_l : l_given r.outcome ≡ L
  pub long : length file ≡ 200 + length body
  pub workspace : after ≡ body ++ zeros (length before - length body)

-- The contract of `write`: given these values and an output, it answered r and left the output as `after`.
pub record Writes (passphrase salt : List ℕ) (iter : ℕ) (K L iv body before after : List ℕ) (r : Result Unit Refusal) : Type 0 where
  pub values : Values salt iter K L iv body
  pub number : answer_number r ≡ (writing_of v3_edition passphrase salt iter K L iv body (length before)).number
  pub output : after ≡ (writing_of v3_edition passphrase salt iter K L iv body (length before)).output
