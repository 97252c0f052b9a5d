-- What a safe file is (document 01, "The file, by offset"): one concatenation of its parts, and what must hold of them.
use Rattle.std.specs.Prelude.{ℕ, ◌*◌, ◌/◌, ◌%◌, ◌^◌, ◌<◌, ◌≤◌, ◌≡◌, List, ◌++◌, length, take, drop}
use Rattle.words.specs.Numbers.{Bytes, Sized, bytes_low}
use Rattle.words.specs.Slices.{zeros}
use Rattle.chain.specs.Modes.{ecb_e, cbc_e, encrypted}
use Rattle.file.specs.Layout.{Parts, join, tag, marker}
use Rattle.file.specs.Edition.{Format}

module _ (F : Format) where
  -- B1 to B4: keys K and L, in ECB under P'
  unfoldable pub wrapped : (P' K L : List ℕ) → List ℕ
  wrapped P' K L = encrypted (ecb_e F.cipher P') 4 (zeros 16) (K ++ L)

  -- the body, in CBC under K
  unfoldable pub cbc : (K iv body : List ℕ) → List ℕ
  cbc K iv body = encrypted (cbc_e F.cipher K) (length body / 16) iv body

  -- the parts of the file of a body whose HMAC covers the bytes covered
  unfoldable pub parts_of : (passphrase salt : List ℕ) (iter : ℕ) (K L iv body covered : List ℕ) → Parts
  parts_of passphrase salt iter K L iv body covered =
      record {
        tag = tag;
        salt = salt;
        iter = bytes_low 4 iter;
        check = (F.stretched passphrase salt iter).check;
        keys = wrapped (F.stretched passphrase salt iter).key K L;
        iv = iv;
        encrypted = cbc K iv body;
        marker = marker;
        mac = F.hmac L covered;
      }

  unfoldable pub file_of : (passphrase salt : List ℕ) (iter : ℕ) (K L iv body covered : List ℕ) → List ℕ
  file_of passphrase salt iter K L iv body covered = join (parts_of passphrase salt iter K L iv body covered)

  -- file is a safe of body, under passphrase
  pub record IsSafe (passphrase file salt : List ℕ) (iter : ℕ) (K L iv body : List ℕ) : Type 0 where
    -- a passphrase is 0 to 1,024 bytes
    pub passphrase_fits : length passphrase ≤ 1024
    -- values of fixed size
    pub salt_sized : Sized 32 salt
    pub iter_fits : iter < 2 ^ 32
    pub K_sized : Sized 32 K
    pub L_sized : Sized 32 L
    pub iv_sized : Sized 16 iv
    -- the floor
    pub iter_floor : F.floor ≤ iter
    -- n blocks, n at least 2; no file exceeds 4,194,304 bytes
    pub body_bytes : Bytes body
    pub body_least : 32 ≤ length body
    pub body_most : length body ≤ 4194096
    pub body_whole : length body % 16 ≡ 0
    -- the body is well formed, and its HMAC covers these bytes
    pub covered : List ℕ
    pub well_formed : F.Body body covered
    -- of the aligned blocks from offset 152 on, the first that equals the marker is the one at length - 48
    pub no_marker : (j : ℕ) → j < length body / 16 → take 16 (drop (16 * j) (cbc K iv body)) ≡ marker → ⊥
    pub is_file : file ≡ file_of passphrase salt iter K L iv body covered
