-- What a reading answers, and what it leaves in the workspace (document 01, "Numbers of refusal").
use Rattle.std.specs.Prelude.{ℕ, ◌+◌, ◌-◌, ◌/◌, ◌%◌, ◌≡◌, Bool, not, ◌||◌, List, [], ◌∷◌, ◌++◌, ltb, eqb, length, take, drop}
use Rattle.words.specs.Numbers.{number_low}
use Rattle.words.specs.Slices.{zeros}
use Rattle.chain.specs.Modes.{ecb_d, cbc_d}
use Rattle.chain.specs.Decryption.{Decryption, decryption, step, run}
use Rattle.file.specs.Layout.{Parts, split, tag, differ, first_marker}
use Rattle.file.specs.Refusals.{Test, refuse_if, deciding}
use Rattle.file.specs.Edition.{Format, Edition, Stretched}

-- an answer: 0 or the number of the refusal, the keys, the counts of header fields and records, the two counts of work, and the body
pub record Report : Type 0 where
  pub number : ℕ
  pub key_k : List ℕ
  pub key_l : List ℕ
  pub headers : ℕ
  pub records : ℕ
  pub compressions : ℕ
  pub blocks : ℕ
  pub body : List ℕ

-- an acceptance with these keys and this body
pub record Answers (r : Report) (K L body : List ℕ) : Type 0 where
  pub accepts : r.number ≡ 0
  pub gives_k : r.key_k ≡ K
  pub gives_l : r.key_l ≡ L
  pub gives_body : r.body ≡ body

-- refused: keys and counts zero, and no body
unfoldable pub refused : ℕ → ℕ → ℕ → Report
refused n c b = record { number = n; key_k = zeros 32; key_l = zeros 32; headers = 0; records = 0; compressions = c; blocks = b; body = [] }

-- the workspace, of n bytes, holds the body and zeros after it
unfoldable pub workspace_of : ℕ → Report → List ℕ
workspace_of n r = r.body ++ zeros (n - length r.body)

-- 1: length under 232, over 4,194,304, or length - 200 no multiple of 16
unfoldable pub bad_length : ℕ → Bool
bad_length n = ltb n 232 || (ltb 4194304 n || not (eqb ((n - 200) % 16) 0))

module _ (F : Format) where
  -- 1 to 7: before any work, where the file has the parts p, and n blocks of body
  unfoldable pub early_tests : Parts → ℕ → (file passphrase : List ℕ) (ceiling room : ℕ) → List Test
  early_tests p n file passphrase ceiling room =
      refuse_if 1 (bad_length (length file))
      ∷ refuse_if 2 (ltb 1024 (length passphrase))
      ∷ refuse_if 3 (ltb room (length file - 200))
      ∷ refuse_if 4 (differ p.tag tag)
      ∷ refuse_if 5 (ltb (number_low p.iter) F.floor)
      ∷ refuse_if 6 (ltb ceiling (number_low p.iter))
      ∷ refuse_if 7 (not (eqb (first_marker (n + 3) (drop 152 file)) n))
      ∷ []

  -- the two keys decrypted; then the body, whose count goes on from theirs
  unfoldable pub keys_decrypted : (P' keys : List ℕ) → Decryption
  keys_decrypted P' keys = run (step (ecb_d F.cipher P')) 4 (decryption (zeros 16) keys 0)

  unfoldable pub body_decrypted : (K iv : List ℕ) → ℕ → List ℕ → ℕ → Decryption
  body_decrypted K iv n cipher count = run (step (cbc_d F.cipher K)) n (decryption iv cipher count)

  abbrev pub key_k : Parts → (P' : List ℕ) → List ℕ
  key_k p P' = take 32 (keys_decrypted P' p.keys).done

  abbrev pub key_l : Parts → (P' : List ℕ) → List ℕ
  key_l p P' = drop 32 (keys_decrypted P' p.keys).done

  -- the whole body decrypted
  abbrev pub body_of : Parts → (P' : List ℕ) → ℕ → Decryption
  body_of p P' n = body_decrypted (key_k p P') p.iv n p.encrypted (keys_decrypted P' p.keys).count

module _ (E : Edition) where
  -- accepted: the keys, the two counts, and the body with the counts of its header fields and records
  unfoldable pub accepted : (K L : List ℕ) (compressions blocks : ℕ) (body : List ℕ) → Report
  accepted K L compressions blocks body =
      record {
        number = 0;
        key_k = K;
        key_l = L;
        headers = E.headers body;
        records = E.records body;
        compressions = compressions;
        blocks = blocks;
        body = body;
      }

  -- 9: body not well formed, or HMAC differs
  unfoldable pub body_tests : (L mac body : List ℕ) → List Test
  body_tests L mac body = refuse_if 9 (not (E.is_well_formed body)) ∷ refuse_if 9 (differ (E.format.hmac L (E.covered body)) mac) ∷ []

  -- what a decrypted body, the keys and the two counts come to; of the file it needs the HMAC alone
  unfoldable pub settled : (K L mac : List ℕ) (compressions blocks : ℕ) (body : List ℕ) → Report
  settled K L mac compressions blocks body =
      deciding (λ k. refused k compressions blocks) (body_tests L mac body) (accepted K L compressions blocks body)

  -- 8: SHA-256 of P' differs
  unfoldable pub checked : Parts → Stretched → ℕ → Report
  checked p s n =
      deciding (λ k. refused k s.count 0) (refuse_if 8 (differ s.check p.check) ∷ [])
      (let o = body_of E.format p s.key n in settled (key_k E.format p s.key) (key_l E.format p s.key) p.mac s.count o.count o.done)

  unfoldable pub reading_of : (file passphrase : List ℕ) (ceiling room : ℕ) → Report
  reading_of file passphrase ceiling room =
      let p = split file in
      let n = (length file - 200) / 16 in
      deciding (λ k. refused k 0 0) (early_tests E.format p n file passphrase ceiling room) (checked p (E.format.stretched passphrase p.salt (number_low p.iter)) n)
