-- What the steps of a reading are handed and hand on, each by the definition's state at that point.
use Rattle.std.specs.Prelude.{ℕ, ◌+◌, ◌-◌, ◌*◌, ◌≤◌, ◌<◌, ◌^◌, ◌≡◌, cond, Result, Ok, Err, List, length, take, drop}
use Rattle.words.specs.Numbers.{Bytes}
use Rattle.words.specs.Slices.{zeros, same}
use Rattle.sha256.specs.Hmac.{hmac_of}
use Rattle.body.specs.Decision.{is_well_formed, covered_of, headers_of, records_of}
use Rattle.body.specs.declared.Counts.{Counts}
use Rattle.chain.specs.Decryption.{Decryption}
use Rattle.file.specs.Layout.{split}
use Rattle.file.specs.Refusals.{deciding}
use Rattle.file.specs.Reading.{Report, early_tests, keys_decrypted, key_k, key_l, body_of, settled, checked}
use Rattle.file.specs.Writing.{early_write_tests}
use Rattle.safe.specs.V3.{v3, v3_edition, stretched_v3}
use Rattle.safe.specs.Calls.{salt_in, iter_in, blocks_in, Reports}
use Rattle.safe.specs.declared.Reading.{Reading}
use Rattle.safe.specs.declared.Refusal.{Refusal}
use Rattle.safe.specs.declared.Refusal.TheVariants.{Body}
use Rattle.safe.specs.declared.decrypt.Decrypted.{Decrypted}

-- the number of the first early test that fails, 0 where none does
abbrev pub early_reading : (file passphrase : List ℕ) (ceiling room : ℕ) → ℕ
early_reading file passphrase ceiling room = deciding (λ (n : ℕ). n) (early_tests v3 (split file) (blocks_in file) file passphrase ceiling room) 0

abbrev pub early_writing : (passphrase : List ℕ) (iter : ℕ) (body : List ℕ) (room : ℕ) → ℕ
early_writing passphrase iter body room = deciding (λ (n : ℕ). n) (early_write_tests v3 (is_well_formed body) passphrase iter body room) 0

-- a file of whole blocks, with a body of n bytes
pub record Measured (file : List ℕ) (n : ℕ) : Type 0 where
  pub whole : length file ≡ 200 + 16 * blocks_in file
  pub long : length file ≡ 200 + n
  pub short : length file < 2 ^ 32

-- a file of whole blocks, and a workspace of zeros that holds its body
pub record Ready (file workspace : List ℕ) : Type 0 where
  pub whole : length file ≡ 200 + 16 * blocks_in file
  pub holds : length file - 200 ≤ length workspace
  pub short : length file < 2 ^ 32
  pub blank : workspace ≡ zeros (length workspace)

-- the two keys decrypted, and the count of that state
pub record Unwrapped (key keys : List ℕ) (r : Decrypted) : Type 0 where
  pub k : r.keys.k ≡ take 32 (keys_decrypted v3 key keys).done
  pub l : r.keys.l ≡ drop 32 (keys_decrypted v3 key keys).done
  pub count : r.blocks ≡ (keys_decrypted v3 key keys).count

-- the state that the last block of the body leaves
abbrev pub state_under : (file P' : List ℕ) → Decryption
state_under file P' = body_of v3 (split file) P' (blocks_in file)

-- decrypted under P': the keys, the memory holds that state's text, and the count is that state's own
pub record Decrypts (file P' memory : List ℕ) (r : Decrypted) : Type 0 where
  pub bytes : Bytes file
  pub whole : length file ≡ 200 + 16 * blocks_in file
  pub k : r.keys.k ≡ key_k v3 (split file) P'
  pub l : r.keys.l ≡ key_l v3 (split file) P'
  pub text : memory ≡ (state_under file P').done
  pub count : r.blocks ≡ (state_under file P').count

-- the counts of a body that is well formed and whose HMAC under L is mac, or 9
unfoldable pub verdict_of : (L mac body : List ℕ) → Result Counts Refusal
verdict_of L mac body =
    cond (is_well_formed body)
    (cond (same (hmac_of L (covered_of body)) mac) (Ok (record { headers = headers_of body; records = records_of body })) (Err Body)) (Err Body)

-- settled: of a memory, keys and counts, whatever they are, the report that they make
pub record Settles (d : Decrypted) (mac : List ℕ) (compressions : ℕ) (before after : List ℕ) (r : Reading) : Type 0 where
  pub reports : Reports (settled v3_edition d.keys.k d.keys.l mac compressions d.blocks before) before after r

-- the report of a file's body under P'; and of a file that has passed the early tests
abbrev pub settled_under : (file P' : List ℕ) (compressions : ℕ) → Report
settled_under file P' compressions =
    settled v3_edition (key_k v3 (split file) P') (key_l v3 (split file) P') (split file).mac compressions (state_under file P').count (state_under file P').done

abbrev pub opened_by : (passphrase file : List ℕ) → Report
opened_by passphrase file = checked v3_edition (split file) (stretched_v3 passphrase (salt_in file) (iter_in file)) (blocks_in file)
