-- A file is its parts put together, and parts of the right sizes are found again in the file that they make: no offset is computed twice.
use Prim.Native.Nat.{ℕ, ◌+◌, ◌-◌, ◌*◌, ◌^◌, ◌<◌, ◌≤◌}
use mathlib.Core.Path.{◌≡◌, refl, sym, ap, ap₂, ◌∙◌}
use mathlib.Core.List.{List, [], ◌∷◌, ◌++◌, append-nil, map}
use native.Mathlib.Omega.{arith}
use native.Mathlib.Nat.{mod-eq_of_lt}
use lib.ListN.{length, take, drop, length-take, length-drop, take-append-drop}
use Rattle.words.specs.Numbers.{Bytes, number_low, bytes_low}
use Rattle.words.proofs.NumberLaws.{number_bytes, bytes_number, number_fits}
use Rattle.words.proofs.ByteLaws.{bytes_take, bytes_drop}
use Rattle.file.specs.Layout.{Parts, split, listed, join, glue}
use Rattle.file.proofs.Glue.{glue_inj, sum, length_glue, peel}

-- the sizes of the parts, where the body has m bytes
unfoldable pub sizes : ℕ → List ℕ
sizes m = 4 ∷ 32 ∷ 4 ∷ 32 ∷ 64 ∷ 16 ∷ m ∷ 16 ∷ 32 ∷ []

pub join_split : (f : List ℕ) → 200 ≤ length f → join (split f) ≡ f
unfolding join split listed glue
join_split f h =
    rw (
      append-nil,
      peel (length f - 48) 16 (length f - 32) f (omega arith),
      peel 152 (length f - 200) (length f - 48) f (omega arith),
      peel 136 16 152 f refl,
      peel 72 64 136 f refl,
      peel 40 32 72 f refl,
      peel 36 4 40 f refl,
      peel 4 32 36 f refl,
    )
    (take-append-drop 4 f)

pub part_long : (i k : ℕ) (l : List ℕ) → i + k ≤ length l → length (take k (drop i l)) ≡ k
part_long i k l h = simp (length-take, length-drop) (omega arith)

pub split_sizes : (f : List ℕ) → 200 ≤ length f → map length (listed (split f)) ≡ sizes (length f - 200)
unfolding sizes split listed
split_sizes f h =
    ap₂ ◌∷◌ (part_long 0 4 f (omega arith))
    (ap₂ ◌∷◌ (part_long 4 32 f (omega arith))
    (ap₂ ◌∷◌ (part_long 36 4 f (omega arith))
    (ap₂ ◌∷◌ (part_long 40 32 f (omega arith))
    (ap₂ ◌∷◌ (part_long 72 64 f (omega arith))
    (ap₂ ◌∷◌ (part_long 136 16 f (omega arith))
    (ap₂ ◌∷◌ (part_long 152 (length f - 200) f (omega arith))
    (ap₂ ◌∷◌ (part_long (length f - 48) 16 f (omega arith))
    (ap₂ ◌∷◌ (length-drop (length f - 32) f ∙ omega arith) refl))))))))

listed_inj : (p q : Parts) → listed p ≡ listed q → p ≡ q
unfolding listed
listed_inj p q e =
    let e0 : p.tag ≡ q.tag = cc in
    let e1 : p.salt ≡ q.salt = cc in
    let e2 : p.iter ≡ q.iter = cc in
    let e3 : p.check ≡ q.check = cc in
    let e4 : p.keys ≡ q.keys = cc in
    let e5 : p.iv ≡ q.iv = cc in
    let e6 : p.encrypted ≡ q.encrypted = cc in
    let e7 : p.marker ≡ q.marker = cc in
    let e8 : p.mac ≡ q.mac = cc in
    λ i. record { tag = e0 i; salt = e1 i; iter = e2 i; check = e3 i; keys = e4 i; iv = e5 i; encrypted = e6 i; marker = e7 i; mac = e8 i }

pub join_length : (p : Parts) (m : ℕ) → map length (listed p) ≡ sizes m → length (join p) ≡ 200 + m
unfolding join sizes sum
join_length p m h = length_glue (listed p) ∙ ap sum h ∙ omega arith

pub split_join : (p : Parts) (m : ℕ) → map length (listed p) ≡ sizes m → split (join p) ≡ p
unfolding join
split_join p m h =
    let n = join_length p m h in
    listed_inj (split (join p)) p
    (glue_inj (listed (split (join p))) (listed p)
    (split_sizes (join p) (omega arith) ∙ ap sizes (omega arith) ∙ sym h)
    (join_split (join p) (omega arith)))

-- ITER, of four bytes
pub iter_back : (x : ℕ) → x < 2 ^ 32 → number_low (bytes_low 4 x) ≡ x
iter_back x h = number_bytes 4 x ∙ mod-eq_of_lt h

pub iter_again : (l : List ℕ) → Bytes l → length l ≡ 4 → bytes_low 4 (number_low l) ≡ l
iter_again l b e = ap (λ (n : ℕ). bytes_low n (number_low l)) (sym e) ∙ bytes_number b

pub iter_small : (l : List ℕ) → Bytes l → length l ≡ 4 → number_low l < 2 ^ 32
iter_small l b e = let f : 8 * length l ≡ 32 = omega arith in rw f at (number_fits b)

-- the sizes, part by part
pub record Lengths (p : Parts) (m : ℕ) : Type 0 where
  pub tag_long : length p.tag ≡ 4
  pub salt_long : length p.salt ≡ 32
  pub iter_long : length p.iter ≡ 4
  pub check_long : length p.check ≡ 32
  pub keys_long : length p.keys ≡ 64
  pub iv_long : length p.iv ≡ 16
  pub encrypted_long : length p.encrypted ≡ m
  pub marker_long : length p.marker ≡ 16
  pub mac_long : length p.mac ≡ 32

pub lengths : (p : Parts) (m : ℕ) → map length (listed p) ≡ sizes m → Lengths p m
unfolding listed sizes
lengths p m h = record { tag_long = cc; salt_long = cc; iter_long = cc; check_long = cc; keys_long = cc; iv_long = cc; encrypted_long = cc; marker_long = cc; mac_long = cc }

pub all_lengths : (p : Parts) (m : ℕ) → Lengths p m → map length (listed p) ≡ sizes m
unfolding listed sizes
all_lengths p m h = cc

-- what a file has from offset 152 on
pub tail_split : (f : List ℕ) → 200 ≤ length f → drop 152 f ≡ (split f).encrypted ++ ((split f).marker ++ (split f).mac)
unfolding split
tail_split f h =
    sym (rw (peel (length f - 48) 16 (length f - 32) f (omega arith)) (peel 152 (length f - 200) (length f - 48) f (omega arith)))

-- the parts of a file of bytes
pub record AllBytes (p : Parts) : Type 0 where
  pub salt_bytes : Bytes p.salt
  pub iter_bytes : Bytes p.iter
  pub keys_bytes : Bytes p.keys
  pub iv_bytes : Bytes p.iv
  pub encrypted_bytes : Bytes p.encrypted

pub bytes_split : (f : List ℕ) → Bytes f → AllBytes (split f)
unfolding split
bytes_split f h = record {
  salt_bytes = bytes_take 32 (bytes_drop 4 h);
  iter_bytes = bytes_take 4 (bytes_drop 36 h);
  keys_bytes = bytes_take 64 (bytes_drop 72 h);
  iv_bytes = bytes_take 16 (bytes_drop 136 h);
  encrypted_bytes = bytes_take (length f - 200) (bytes_drop 152 h);
}
