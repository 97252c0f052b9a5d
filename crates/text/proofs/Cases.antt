-- The boundaries of RFC 3629, document 01's two ends of a text and document 02's numbers, told of the grammar: each by the answer, which is computed.
use Prim.Native.Nat.{ℕ}
use mathlib.Core.Path.{◌≡◌, refl, ap}
use mathlib.Core.List.{List, [], ◌∷◌, map}
use lib.ListN.{get_or, drop}
use Rattle.text.specs.Grammar.{IsText}
use Rattle.text.specs.GoesWrong.{GoesWrongAt}
use Rattle.text.specs.Decision.{ends_whole, greatest, goes_wrong_of}
use Rattle.std.specs.Prelude.{Option, None, Some}
use Rattle.text.proofs.GoesWrong.{nowhere_exactly, number_exactly}

abbrev pub texts : List (List ℕ)
texts =
    []
    -- the first and the last character of each length, and those about the surrogates
    ∷ (0x00 ∷ 0x7f ∷ [])
    ∷ (0xc2 ∷ 0x80 ∷ [])
    ∷ (0xdf ∷ 0xbf ∷ [])
    ∷ (0xe0 ∷ 0xa0 ∷ 0x80 ∷ [])
    ∷ (0xed ∷ 0x9f ∷ 0xbf ∷ [])
    ∷ (0xee ∷ 0x80 ∷ 0x80 ∷ [])
    ∷ (0xef ∷ 0xbf ∷ 0xbf ∷ [])
    ∷ (0xf0 ∷ 0x90 ∷ 0x80 ∷ 0x80 ∷ [])
    ∷ (0xf4 ∷ 0x8f ∷ 0xbf ∷ 0xbf ∷ [])
    -- next to the byte order mark, and the mark not at the start
    ∷ (0xef ∷ 0xbb ∷ 0xbe ∷ [])
    ∷ (0x61 ∷ 0xef ∷ 0xbb ∷ 0xbf ∷ [])
    -- 00 not at the end
    ∷ (0x00 ∷ 0x61 ∷ [])
    -- A≢Α. of RFC 3629, section 7
    ∷ (0x41 ∷ 0xe2 ∷ 0x89 ∷ 0xa2 ∷ 0xce ∷ 0x91 ∷ 0x2e ∷ [])
    ∷ []

-- what is no text, and where it goes wrong
abbrev pub others : List (List ℕ × ℕ)
others =
    -- overlong
    (0xc0 ∷ 0x80 ∷ [], 0)
    ∷ (0xc1 ∷ 0xbf ∷ [], 0)
    ∷ (0xe0 ∷ 0x9f ∷ 0xbf ∷ [], 0)
    ∷ (0xf0 ∷ 0x8f ∷ 0xbf ∷ 0xbf ∷ [], 0)
    -- surrogates
    ∷ (0xed ∷ 0xa0 ∷ 0x80 ∷ [], 0)
    ∷ (0xed ∷ 0xbf ∷ 0xbf ∷ [], 0)
    -- past 10FFFF
    ∷ (0xf4 ∷ 0x90 ∷ 0x80 ∷ 0x80 ∷ [], 0)
    ∷ (0xf5 ∷ 0x80 ∷ 0x80 ∷ 0x80 ∷ [], 0)
    ∷ (0xff ∷ [], 0)
    -- a further byte alone, one too few, one too many
    ∷ (0x80 ∷ [], 0)
    ∷ (0xbf ∷ [], 0)
    ∷ (0xc2 ∷ [], 0)
    ∷ (0xe1 ∷ 0x80 ∷ [], 0)
    ∷ (0xf1 ∷ 0x80 ∷ 0x80 ∷ [], 0)
    ∷ (0xc2 ∷ 0x80 ∷ 0x80 ∷ [], 2)
    -- next to a further byte
    ∷ (0xc2 ∷ 0x7f ∷ [], 0)
    ∷ (0xc2 ∷ 0xc0 ∷ [], 0)
    ∷ (0xe1 ∷ 0x80 ∷ 0xc0 ∷ [], 0)
    -- behind whole characters: a byte that is none, characters that are cut, several of these
    ∷ (0x61 ∷ 0xff ∷ 0x62 ∷ [], 1)
    ∷ (0x61 ∷ 0xc3 ∷ 0xa4 ∷ 0xff ∷ [], 3)
    ∷ (0x61 ∷ 0xc3 ∷ [], 1)
    ∷ (0x61 ∷ 0x62 ∷ 0xe2 ∷ 0x82 ∷ [], 2)
    ∷ (0x61 ∷ 0xf0 ∷ 0x9f ∷ 0x94 ∷ 0x62 ∷ [], 1)
    ∷ (0x61 ∷ 0xff ∷ 0xff ∷ 0x62 ∷ 0xc3 ∷ [], 1)
    -- the byte order mark: alone, before a text, with faults behind it
    ∷ (0xef ∷ 0xbb ∷ 0xbf ∷ [], 0)
    ∷ (0xef ∷ 0xbb ∷ 0xbf ∷ 0x61 ∷ [], 0)
    ∷ (0xef ∷ 0xbb ∷ 0xbf ∷ 0x61 ∷ 0xff ∷ [], 0)
    ∷ (0xef ∷ 0xbb ∷ 0xbf ∷ 0x61 ∷ 0x00 ∷ [], 0)
    -- ending in 00: only that, and with faults before it
    ∷ (0x00 ∷ [], 0)
    ∷ (0x61 ∷ 0x00 ∷ [], 1)
    ∷ (0x00 ∷ 0x00 ∷ [], 1)
    ∷ (0xc3 ∷ 0xa4 ∷ 0x00 ∷ [], 2)
    ∷ (0x61 ∷ 0xff ∷ 0x00 ∷ [], 1)
    ∷ (0x61 ∷ 0x62 ∷ 0xc3 ∷ 0x00 ∷ [], 2)
    ∷ []

-- P holds of each
abbrev pub Each : {A : Type 0} → (A → Type 0) → List A → Type 0
Each P [] = Unit
Each P (a ∷ l) = P a × Each P l

-- told of each by its answer
each : {A : Type 0} (f g : A → Option ℕ) (P : A → Type 0) → ((a : A) → f a ≡ g a → P a) → (l : List A) → map f l ≡ map g l → Each P l
each f g P h [] e = tt
each f g P h (a ∷ l) e = (h a (ap (λ (l : List (Option ℕ)). get_or l 0 None) e), each f g P h l (ap (λ (l : List (Option ℕ)). drop 1 l) e))

pub cases : Each IsText texts × Each (λ o. GoesWrongAt o.0 o.1) others
unfolding ends_whole greatest goes_wrong_of
cases = (
  each goes_wrong_of (λ s. None) IsText (λ s. (nowhere_exactly s).0) texts refl,
  each (λ o. goes_wrong_of o.0) (λ o. Some o.1) (λ o. GoesWrongAt o.0 o.1) (λ o. (number_exactly o.0 o.1).0) others refl,
)
