-- Document 01's thirteen instances marked *, as one statement over their list: all but those of the counts are computed; those are the counts' formulas.
use Prim.Native.Nat.{ℕ, zero, ◌+◌, ◌-◌, ◌/◌, ◌^◌, ◌<◌, ◌≤◌}
use mathlib.Core.Path.{◌≡◌, refl, ap, ◌∙◌}
use mathlib.Core.Bool.{Bool, true, false}
use mathlib.Core.List.{List, [], ◌∷◌, map}
use native.Mathlib.Omega.{arith}
use lib.Dec.{ltb}
use lib.ListN.{length, take, drop}
use Rattle.words.specs.Numbers.{number_low}
use Rattle.words.specs.Rotation.{rotate_right}
use Rattle.twofish.specs.Q.{rule0, rule1, table0, table1, q0, q1}
use Rattle.stretch.specs.Stretch.{start_of, step_of, stretched_of}
use Rattle.stretch.proofs.Counts.{stretched_count, check_count}
use Rattle.fields.specs.Stored.{blocks_of}
use Rattle.file.specs.Layout.{split, tag, differ}
use Rattle.file.specs.Refusals.{Test, First, here, later}
use Rattle.file.specs.Reading.{Report, refused, bad_length, early_tests, reading_of}
use Rattle.file.proofs.Passed.{refused_first}
use Rattle.safe.specs.V3.{v3, v3_edition}
use Rattle.safe.specs.Calls.{OneToFour}

-- (by the definitions, by document 01), for passphrases a, b and c and a salt
abbrev pub thirteen : (a b c salt : List ℕ) → List (ℕ × ℕ)
thirteen a b c salt =
    -- data lengths 0, 11, 12, 27, 28 take 1, 1, 2, 2, 3 blocks
    (blocks_of 0, 1) ∷ (blocks_of 11, 1) ∷ (blocks_of 12, 2) ∷ (blocks_of 27, 2) ∷ (blocks_of 28, 3)
    -- q0 of 0 is A9; q1 of 0 is 75
    ∷ (q0 0, 0xA9) ∷ (q1 0, 0x75)
    -- first hash, passphrase 23: 1 block; 24: 2; 1,024: 17
    ∷ ((start_of a salt).count, 1) ∷ ((start_of b salt).count, 2) ∷ ((start_of c salt).count, 17)
    -- ITER 2,048, passphrase 24: 2,051 compressions
    ∷ ((step_of (stretched_of 2048 (start_of b salt))).count, 2051)
    -- bytes FF 07 00 00 are ITER 2,047; 00 08 00 00 are 2,048
    ∷ (number_low (0xFF ∷ 0x07 ∷ 0x00 ∷ 0x00 ∷ []), 2047) ∷ (number_low (0x00 ∷ 0x08 ∷ 0x00 ∷ 0x00 ∷ []), 2048)
    ∷ []

first_count : (p salt : List ℕ) (n : ℕ) → length p < 2 ^ 32 → length salt ≡ 32 → (length p + 40) / 64 + 1 ≡ n → (start_of p salt).count ≡ n
unfolding stretched_of
first_count p salt n h s e = stretched_count zero p salt s (omega arith) ∙ omega arith

pub instances : (a b c salt : List ℕ) → length a ≡ 23 → length b ≡ 24 → length c ≡ 1024 → length salt ≡ 32
    → map (λ i. i.0) (thirteen a b c salt) ≡ map (λ i. i.1) (thirteen a b c salt)
unfolding rotate_right rule0 rule1 table0 table1 number_low
instances a b c salt la lb lc ls =
    rw (
      check_count 2048 b salt ls (omega arith),
      lb,
      first_count a salt 1 (omega arith) ls (omega arith),
      first_count b salt 2 (omega arith) ls (omega arith),
      first_count c salt 17 (omega arith) ls (omega arith),
    )

-- ITER 2,047 is refusal 5 unless one of 1 to 4 comes first: the tests before it are passed, one after the other.
module _ (file passphrase : List ℕ) (ceiling room : ℕ) (iter : take 4 (drop 36 file) ≡ 0xFF ∷ 0x07 ∷ 0x00 ∷ 0x00 ∷ [])
    (past : OneToFour (reading_of v3_edition file passphrase ceiling room).number → ⊥) where
  abbrev tests : List Test
  tests = early_tests v3 (split file) ((length file - 200) / 16) file passphrase ceiling room

  number : (k : ℕ) → First k tests → (reading_of v3_edition file passphrase ceiling room).number ≡ k
  unfolding refused
  number k f = ap (λ (t : Report). t.number) (refused_first v3_edition file passphrase ceiling room k f)

  pub below_floor : (reading_of v3_edition file passphrase ceiling room).number ≡ 5
  unfolding early_tests split v3 number_low
  below_floor = one (bad_length (length file)) refl
    where
      no : (k : ℕ) → First k tests → 1 ≤ k → k ≤ 4 → ⊥
      no k f a b = let e = number k f in past (omega arith, omega arith)

      four : bad_length (length file) ≡ false → ltb 1024 (length passphrase) ≡ false → ltb room (length file - 200) ≡ false
          → (b : Bool) → differ (take 4 file) tag ≡ b → (reading_of v3_edition file passphrase ceiling room).number ≡ 5
      four t1 t2 t3 true h = absurd (no 4 (later t1 (later t2 (later t3 (here refl h)))) (omega arith) (omega arith))
      four t1 t2 t3 false h = number 5 (later t1 (later t2 (later t3 (later h (here refl (ap (λ (l : List ℕ). ltb (number_low l) 2048) iter))))))

      three : bad_length (length file) ≡ false → ltb 1024 (length passphrase) ≡ false
          → (b : Bool) → ltb room (length file - 200) ≡ b → (reading_of v3_edition file passphrase ceiling room).number ≡ 5
      three t1 t2 true h = absurd (no 3 (later t1 (later t2 (here refl h))) (omega arith) (omega arith))
      three t1 t2 false h = four t1 t2 h (differ (take 4 file) tag) refl

      two : bad_length (length file) ≡ false → (b : Bool) → ltb 1024 (length passphrase) ≡ b → (reading_of v3_edition file passphrase ceiling room).number ≡ 5
      two t1 true h = absurd (no 2 (later t1 (here refl h)) (omega arith) (omega arith))
      two t1 false h = three t1 h (ltb room (length file - 200)) refl

      one : (b : Bool) → bad_length (length file) ≡ b → (reading_of v3_edition file passphrase ceiling room).number ≡ 5
      one true h = absurd (no 1 (here refl h) (omega arith) (omega arith))
      one false h = two h (ltb 1024 (length passphrase)) refl
