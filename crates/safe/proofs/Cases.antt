-- Document 01's refusals of a reading before any work, and of a writing, in their order, computed by the definitions; and so a safe that there is.
use Prim.Native.Nat.{ℕ}
use mathlib.Core.Path.{◌≡◌, refl}
use mathlib.Core.List.{List, [], ◌∷◌, ◌++◌, map}
use lib.Dec.{lit<}
use lib.ListN.{take, drop, replicate}
use Rattle.words.specs.Numbers.{number_low, bytes_low, bytes_high}
use Rattle.words.specs.Rotation.{rotate_right, rotate_left}
use Rattle.words.specs.Slices.{zeros, same}
use Rattle.words.specs.Xor.{xored}
use Rattle.words.proofs.ByteLaws.{sized_zeros}
use Rattle.twofish.specs.Field.{twice, times, gf}
use Rattle.twofish.specs.Q.{rule0, rule1, table0, table1}
use Rattle.twofish.specs.Key.{evens, odds, box_key, mds, y0, y1, y2, y3, h, word_a, word_b, subkey, subkeys, g}
use Rattle.twofish.specs.Cipher.{whiten, F0, F1, round, rounds, encrypt}
use Rattle.twofish.specs.Twofish.{block_of, block_bytes, encrypt_words, encrypt_block}
use Rattle.chain.specs.Modes.{cbc_e, encrypted}
use Rattle.body.specs.Sections.{runs}
use Rattle.body.specs.Decision.{divided, good_header, good_record, good_runs, formed, distinct, is_well_formed}
use Rattle.body.proofs.Cases.{least, least_bytes}
use Rattle.file.specs.Layout.{split, tag, marker, first_marker}
use Rattle.file.specs.Description.{IsSafe, cbc}
use Rattle.file.specs.Reading.{refused, bad_length, early_tests, checked, reading_of}
use Rattle.file.specs.Writing.{bad_body, clear, early_write_tests, write_tests, written, unwritten, writing_of, Values}
use Rattle.file.proofs.Cases.{saved}
use Rattle.file.proofs.Written.{write_exactly}
use Rattle.safe.specs.V3.{v3, v3_edition}
use Rattle.safe.proofs.V3Laws.{v3_laws}

-- a file with a tag, ITER, a body of two blocks and a marker; all else zero
abbrev file : (t i body m : List ℕ) → List ℕ
file t i body m = t ++ (zeros 32 ++ (i ++ (zeros 112 ++ (body ++ (m ++ zeros 32)))))

-- ITER 2,048; a tag that is not PWS3
abbrev iter : List ℕ
iter = 0x00 ∷ 0x08 ∷ 0x00 ∷ 0x00 ∷ []

abbrev other : List ℕ
other = 0x50 ∷ 0x57 ∷ 0x53 ∷ 0x32 ∷ []

abbrev number : (file : List ℕ) (passphrase ceiling room : ℕ) → ℕ
number file passphrase ceiling room = (reading_of v3_edition file (zeros passphrase) ceiling room).number

-- (by the definition, by document 01): where later tests fail too, the first decides
abbrev pub reads : List (ℕ × ℕ)
reads =
    (number [] 1025 0 0, 1)
    ∷ (number (drop 1 (file tag iter (zeros 32) marker)) 0 2048 32, 1)
    ∷ (number (file tag iter (zeros 32) marker ++ (0x00 ∷ [])) 0 2048 32, 1)
    ∷ (number (file tag iter (zeros 16) marker) 0 2048 32, 1)
    ∷ (number (file other (zeros 4) (zeros 32) (zeros 16)) 1025 0 31, 2)
    ∷ (number (file other (zeros 4) (zeros 32) (zeros 16)) 1024 0 31, 3)
    -- wrong tag and ITER 0 together
    ∷ (number (file other (zeros 4) (zeros 32) (zeros 16)) 0 0 32, 4)
    ∷ (number (file tag (zeros 4) (zeros 32) (zeros 16)) 0 0 32, 5)
    ∷ (number (file tag (0xff ∷ 0x07 ∷ 0x00 ∷ 0x00 ∷ []) (zeros 32) (zeros 16)) 0 2046 32, 5)
    -- ceiling 2,047; and one below the largest ITER
    ∷ (number (file tag iter (zeros 32) (zeros 16)) 0 2047 32, 6)
    ∷ (number (file tag (replicate 4 0xff) (zeros 32) (zeros 16)) 0 4294967294 32, 6)
    -- no marker; an earlier one; one between blocks; a later one
    ∷ (number (file tag iter (zeros 32) (zeros 16)) 0 2048 32, 7)
    ∷ (number (file tag iter (zeros 16 ++ marker) marker) 0 2048 32, 7)
    ∷ (number (file tag iter (zeros 24 ++ take 8 marker) (drop 8 marker ++ zeros 8)) 0 2048 32, 7)
    ∷ (number (take 200 (file tag iter (zeros 32) (zeros 16)) ++ (marker ++ marker)) 0 2048 32, 7)
    ∷ []

abbrev writes : (passphrase iter : ℕ) (iv body : List ℕ) (room : ℕ) → ℕ
writes passphrase iter iv body room = (writing_of v3_edition (zeros passphrase) (zeros 32) iter (zeros 32) (zeros 32) iv body room).number

abbrev pub writings : List (ℕ × ℕ)
writings =
    (writes 1025 0 (zeros 16) (zeros 31) 0, 1)
    ∷ (writes 1025 0 (zeros 16) (zeros 33) 0, 1)
    ∷ (writes 1025 0 (zeros 16) (zeros 32) 0, 2)
    ∷ (writes 1024 0 (zeros 16) (zeros 32) 231, 3)
    ∷ (writes 1024 2047 (zeros 16) (zeros 32) 232, 5)
    ∷ (writes 1024 2048 (zeros 16) (zeros 32) 232, 9)
    ∷ []

pub cases : (map (λ c. c.0) reads ≡ map (λ c. c.1) reads) × (map (λ c. c.0) writings ≡ map (λ c. c.1) writings)
unfolding number_low same v3 split tag marker first_marker refused bad_length early_tests reading_of bad_body unwritten early_write_tests write_tests writing_of runs divided good_header good_record good_runs formed distinct is_well_formed bytes_low
cases = (refl, refl)

-- a file that another program saved, under its passphrase "a": with a ceiling equal to ITER and room for its five blocks none of 1 to 7
pub saved_passes : reading_of v3_edition saved (0x61 ∷ []) 2048 80 ≡ checked v3_edition (split saved) (v3.stretched (0x61 ∷ []) (split saved).salt 2048) 5
unfolding number_low bytes_low bytes_high same v3 split tag marker first_marker bad_length early_tests reading_of
saved_passes = refl

-- 10: under this vector the second block becomes the marker; and under another nothing is refused
abbrev vector : List ℕ
vector = bytes_high 16 0x71ad4b31bb6dcb9e373a3943c7e5007e

pub marked : (writes 1024 2048 vector least 232 ≡ 10) × (writes 1024 2048 (zeros 16) least 232 ≡ 0)
unfolding number_low bytes_low bytes_high same v3 marker bad_body clear unwritten written early_write_tests write_tests writing_of cbc cbc_e encrypted xored runs divided good_header good_record good_runs formed distinct is_well_formed rotate_right rotate_left twice times gf rule0 rule1 table0 table1 evens odds box_key mds y0 y1 y2 y3 h word_a word_b subkey subkeys g whiten F0 F1 round rounds encrypt block_of block_bytes encrypt_words encrypt_block
marked = (refl, refl)

-- so there is a safe: the file that these values make
pub a_safe : (file : List ℕ) × IsSafe v3 (zeros 1024) file (zeros 32) 2048 (zeros 32) (zeros 32) (zeros 16) least
a_safe =
    let values : Values (zeros 32) 2048 (zeros 32) (zeros 32) (zeros 16) least =
    record {
      salt_sized = sized_zeros 32;
      iter_fits = lit< tt;
      K_sized = sized_zeros 32;
      L_sized = sized_zeros 32;
      iv_sized = sized_zeros 16;
      body_bytes = least_bytes;
    } in
    let w = (write_exactly v3_edition v3_laws (zeros 1024) (zeros 32) 2048 (zeros 32) (zeros 32) (zeros 16) least 232 values).0 marked.1 in
    (w.0, w.1)
