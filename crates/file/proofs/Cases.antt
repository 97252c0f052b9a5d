-- Document 01's lengths, and the parts of a file that another program saved, computed by the definitions.
use Prim.Native.Nat.{ℕ}
use mathlib.Core.Path.{◌≡◌, refl}
use mathlib.Core.Bool.{true, false}
use mathlib.Core.List.{List, [], ◌∷◌, ◌++◌, map}
use lib.ListN.{drop}
use Rattle.words.specs.Numbers.{number_low, bytes_low, bytes_high}
use Rattle.words.specs.Slices.{zeros, same}
use Rattle.file.specs.Layout.{split, marker, first_marker}
use Rattle.file.specs.Reading.{bad_length}
use Rattle.file.specs.Writing.{bad_body}

-- of 231, 232, 233, 4,194,296 and 4,194,304 only the second and fourth pass refusal 1; and the same of bodies
pub lengths : (map bad_length (231 ∷ 232 ∷ 233 ∷ 4194296 ∷ 4194304 ∷ []) ≡ true ∷ false ∷ true ∷ false ∷ true ∷ [])
    × (map bad_body (31 ∷ 32 ∷ 33 ∷ 4194096 ∷ 4194112 ∷ []) ≡ true ∷ false ∷ true ∷ false ∷ true ∷ [])
unfolding bad_length bad_body
lengths = (refl, refl)

-- examples/saved/g01-empty-pass1.psafe3, by Password Gorilla: 280 bytes, so 5 blocks of body
abbrev pub saved : List ℕ
saved =
    bytes_high 64 0x505753330d474bb683d963a50a4bc1966cbb337ca153271506c2bb8f2fec18f452f0ec490008000091e948bddc7e1b3e7d3b155754c40fa0ced49bb1fe71baa7
    ++ (bytes_high 64 0x5759d2f37aebf582d7c73064b7aba8a99d86644b9d79fc1162345e09bb89abb5ccb901331b60182cb710ed48ced7ad95c4d9b9cac9d0993915f2f184759af809
    ++ (bytes_high 64 0x31dcc3e5d7ce0c07a15c81918949449c99fa5b2bda44e0986f616e11ff9e5471d04ff53c3f3dd3bcb25dfeca253f6f23655c11d28153bcaad9232ef154ccaba8
    ++ (bytes_high 64 0xabcc6a2b527a34d8a3498145c4d47a0dfcd6898d22cc8d2ec84a69b9bffa502df691797b6b798ac4505753332d454f46505753332d454f46303191a058248f54
    ++ bytes_high 24 0x82b8147ace650aae89fac33d33bfea1f4fc610dab6b18c2d)))

pub parts : split saved
    ≡ record {
      tag = bytes_high 4 0x50575333;
      salt = bytes_high 32 0x0d474bb683d963a50a4bc1966cbb337ca153271506c2bb8f2fec18f452f0ec49;
      iter = bytes_high 4 0x00080000;
      check = bytes_high 32 0x91e948bddc7e1b3e7d3b155754c40fa0ced49bb1fe71baa75759d2f37aebf582;
      keys = bytes_high 64 0xd7c73064b7aba8a99d86644b9d79fc1162345e09bb89abb5ccb901331b60182cb710ed48ced7ad95c4d9b9cac9d0993915f2f184759af80931dcc3e5d7ce0c07;
      iv = bytes_high 16 0xa15c81918949449c99fa5b2bda44e098;
      encrypted = bytes_high 80 0x6f616e11ff9e5471d04ff53c3f3dd3bcb25dfeca253f6f23655c11d28153bcaad9232ef154ccaba8abcc6a2b527a34d8a3498145c4d47a0dfcd6898d22cc8d2ec84a69b9bffa502df691797b6b798ac4;
      marker = bytes_high 16 0x505753332d454f46505753332d454f46;
      mac = bytes_high 32 0x303191a058248f5482b8147ace650aae89fac33d33bfea1f4fc610dab6b18c2d;
    }
unfolding bytes_low bytes_high split
parts = refl

-- its ITER; where the first marker is, and where it is in the body, in no block, and between two
pub places : number_low (split saved).iter
    ∷ first_marker 8 (drop 152 saved)
    ∷ first_marker 3 (zeros 16 ++ (marker ++ marker))
    ∷ first_marker 3 (zeros 48)
    ∷ first_marker 3 (zeros 8 ++ (marker ++ zeros 24))
    ∷ []
    ≡ 2048 ∷ 5 ∷ 1 ∷ 3 ∷ 3 ∷ []
unfolding number_low bytes_low bytes_high same split marker first_marker
places = refl
