-- What a writing answers, and what it leaves in the output (document 01, "Numbers of refusal").
use Rattle.std.specs.Prelude.{ℕ, zero, suc, ◌+◌, ◌-◌, ◌/◌, ◌%◌, ◌^◌, ◌<◌, Bool, true, not, ◌||◌, ◌&&◌, List, [], ◌∷◌, ◌++◌, ltb, eqb, length, take, drop}
use Rattle.words.specs.Numbers.{Bytes, Sized}
use Rattle.words.specs.Slices.{zeros}
use Rattle.file.specs.Layout.{marker, differ}
use Rattle.file.specs.Refusals.{Test, refuse_if, deciding}
use Rattle.file.specs.Edition.{Format, Edition}
use Rattle.file.specs.Description.{cbc, file_of}

pub record Writing : Type 0 where
  pub number : ℕ
  pub output : List ℕ

-- what the caller supplies: values of fixed size, an ITER of 32 bits, and a body of bytes
pub record Values (salt : List ℕ) (iter : ℕ) (K L iv body : List ℕ) : Type 0 where
  pub salt_sized : Sized 32 salt
  pub iter_fits : iter < 2 ^ 32
  pub K_sized : Sized 32 K
  pub L_sized : Sized 32 L
  pub iv_sized : Sized 16 iv
  pub body_bytes : Bytes body

-- refused: all zero
unfoldable pub unwritten : ℕ → ℕ → Writing
unwritten n room = record { number = n; output = zeros room }

-- 1: under 32, over 4,194,096, or no multiple of 16
unfoldable pub bad_body : ℕ → Bool
bad_body n = ltb n 32 || (ltb 4194096 n || not (eqb (n % 16) 0))

-- none of the first n blocks equals the marker
unfoldable pub clear : ℕ → List ℕ → Bool
clear zero l = true
clear (suc n) l = differ (take 16 l) marker && clear n (drop 16 l)

module _ (F : Format) where
  -- 1, 2, 3, 5 and 9: before any work, of a body that is well formed or not
  unfoldable pub early_write_tests : (good : Bool) (passphrase : List ℕ) (iter : ℕ) (body : List ℕ) (room : ℕ) → List Test
  early_write_tests good passphrase iter body room =
      refuse_if 1 (bad_body (length body))
      ∷ refuse_if 2 (ltb 1024 (length passphrase))
      ∷ refuse_if 3 (ltb room (length body + 200))
      ∷ refuse_if 5 (ltb iter F.floor)
      ∷ refuse_if 9 (not good)
      ∷ []

  -- 10: a produced body block equals the marker
  unfoldable pub write_tests : (good : Bool) (passphrase : List ℕ) (iter : ℕ) (K iv body : List ℕ) (room : ℕ) → List Test
  write_tests good passphrase iter K iv body room =
      early_write_tests good passphrase iter body room ++ (refuse_if 10 (not (clear (length body / 16) (cbc F K iv body))) ∷ [])

module _ (E : Edition) where
  -- accepted: the file, then zeros to the end of the output
  unfoldable pub written : (passphrase salt : List ℕ) (iter : ℕ) (K L iv body : List ℕ) (room : ℕ) → Writing
  written passphrase salt iter K L iv body room =
      record { number = 0; output = file_of E.format passphrase salt iter K L iv body (E.covered body) ++ zeros (room - (length body + 200)) }

  unfoldable pub writing_of : (passphrase salt : List ℕ) (iter : ℕ) (K L iv body : List ℕ) (room : ℕ) → Writing
  writing_of passphrase salt iter K L iv body room =
      deciding (λ k. unwritten k room) (write_tests E.format (E.is_well_formed body) passphrase iter K iv body room) (written passphrase salt iter K L iv body room)
