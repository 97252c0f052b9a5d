-- Text: well-formed UTF-8 as the grammar of RFC 3629, section 4, has it, and what document 01 asks besides. `Decision.antt` decides it byte by byte.
use Rattle.std.specs.Prelude.{ℕ, ◌≤◌, ◌≡◌, List, [], ◌∷◌, ◌++◌}

abbrev pub Within : ℕ → ℕ → ℕ → Type 0
Within b low high = (low ≤ b) × (b ≤ high)

abbrev pub Tail : ℕ → Type 0
Tail b = Within b 0x80 0xbf

-- a character: UTF8-1, UTF8-2, UTF8-3 and UTF8-4, a constructor for each alternative
pub data Character : List ℕ → Type 0 where
  one : {b : ℕ} → b ≤ 0x7f → Character (b ∷ [])
  two : {b c : ℕ} → Within b 0xc2 0xdf → Tail c → Character (b ∷ c ∷ [])
  three_e0 : {c d : ℕ} → Within c 0xa0 0xbf → Tail d → Character (0xe0 ∷ c ∷ d ∷ [])
  three_e1 : {b c d : ℕ} → Within b 0xe1 0xec → Tail c → Tail d → Character (b ∷ c ∷ d ∷ [])
  three_ed : {c d : ℕ} → Within c 0x80 0x9f → Tail d → Character (0xed ∷ c ∷ d ∷ [])
  three_ee : {b c d : ℕ} → Within b 0xee 0xef → Tail c → Tail d → Character (b ∷ c ∷ d ∷ [])
  four_f0 : {c d e : ℕ} → Within c 0x90 0xbf → Tail d → Tail e → Character (0xf0 ∷ c ∷ d ∷ e ∷ [])
  four_f1 : {b c d e : ℕ} → Within b 0xf1 0xf3 → Tail c → Tail d → Tail e → Character (b ∷ c ∷ d ∷ e ∷ [])
  four_f4 : {c d e : ℕ} → Within c 0x80 0x8f → Tail d → Tail e → Character (0xf4 ∷ c ∷ d ∷ e ∷ [])

-- well-formed UTF-8: characters, one after the other
pub data WellFormedUtf8 : List ℕ → Type 0 where
  end : WellFormedUtf8 []
  char : {xs ys : List ℕ} → Character xs → WellFormedUtf8 ys → WellFormedUtf8 (xs ++ ys)

-- what a Text field holds: well-formed UTF-8, not starting EF BB BF and not ending in 00
pub record IsText (s : List ℕ) : Type 0 where
  pub utf8 : WellFormedUtf8 s
  pub no_mark : (t : List ℕ) → s ≡ 0xef ∷ 0xbb ∷ 0xbf ∷ t → ⊥
  pub no_zero : (t : List ℕ) → s ≡ t ++ (0x00 ∷ []) → ⊥
