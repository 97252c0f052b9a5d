-- The V3 file by offset (document 01, "The file, by offset"): its parts, and the parts put together again. The offsets of all parts stand here.
use Rattle.std.specs.Prelude.{ℕ, zero, suc, ◌-◌, Bool, cond, not, List, [], ◌∷◌, ◌++◌, length, take, drop, ltb, Option, Some, None}
use Rattle.words.specs.Slices.{same}

pub record Parts : Type 0 where
  pub tag : List ℕ
  pub salt : List ℕ
  pub iter : List ℕ
  pub check : List ℕ
  pub keys : List ℕ
  pub iv : List ℕ
  pub encrypted : List ℕ
  pub marker : List ℕ
  pub mac : List ℕ

unfoldable pub split : List ℕ → Parts
split f =
    record {
      tag = take 4 f;
      salt = take 32 (drop 4 f);
      iter = take 4 (drop 36 f);
      check = take 32 (drop 40 f);
      keys = take 64 (drop 72 f);
      iv = take 16 (drop 136 f);
      encrypted = take (length f - 200) (drop 152 f);
      marker = take 16 (drop (length f - 48) f);
      mac = drop (length f - 32) f;
    }

-- a list of parts as one list
unfoldable pub glue : List (List ℕ) → List ℕ
glue [] = []
glue (p ∷ ps) = p ++ glue ps

unfoldable pub listed : Parts → List (List ℕ)
listed p = p.tag ∷ p.salt ∷ p.iter ∷ p.check ∷ p.keys ∷ p.iv ∷ p.encrypted ∷ p.marker ∷ p.mac ∷ []

unfoldable pub join : Parts → List ℕ
join p = glue (listed p)

-- ASCII PWS3, and PWS3-EOFPWS3-EOF
unfoldable pub tag : List ℕ
tag = 0x50 ∷ 0x57 ∷ 0x53 ∷ 0x33 ∷ []

unfoldable pub marker : List ℕ
marker = 0x50 ∷ 0x57 ∷ 0x53 ∷ 0x33 ∷ 0x2d ∷ 0x45 ∷ 0x4f ∷ 0x46 ∷ 0x50 ∷ 0x57 ∷ 0x53 ∷ 0x33 ∷ 0x2d ∷ 0x45 ∷ 0x4f ∷ 0x46 ∷ []

abbrev pub differ : List ℕ → List ℕ → Bool
differ a b = not (same a b)

-- of n blocks, the number of the first that equals the marker, counted from 0, or n where none does
unfoldable pub first_marker : ℕ → List ℕ → ℕ
first_marker zero l = 0
first_marker (suc n) l = cond (same (take 16 l) marker) 0 (suc (first_marker n (drop 16 l)))

-- the number of that block, or None where none equals it
abbrev pub marked_at : ℕ → List ℕ → Option ℕ
marked_at n l = cond (ltb (first_marker n l) n) (Some (first_marker n l)) None
