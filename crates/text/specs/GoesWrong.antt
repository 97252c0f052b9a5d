-- Where a text goes wrong (document 02, Q-5): "the number of bytes of the longest well-formed start, 0 where the text starts with a byte order mark, and length - 1 where
-- only a final 00 offends. Where several apply the smallest number is given."
use Rattle.std.specs.Prelude.{ℕ, ◌-◌, ◌≤◌, ◌≡◌, List, [], ◌∷◌, ◌++◌, length, take}
use Rattle.text.specs.Grammar.{WellFormedUtf8, IsText}

-- the first n bytes are well formed, and no longer start is
pub record LongestStart (s : List ℕ) (n : ℕ) : Type 0 where
  pub within : n ≤ length s
  pub formed : WellFormedUtf8 (take n s)
  pub longest : (m : ℕ) → m ≤ length s → WellFormedUtf8 (take m s) → m ≤ n

-- only a final 00 offends: it is there, and neither a mark nor a character that is none
pub record OnlyZero (s : List ℕ) : Type 0 where
  pub utf8 : WellFormedUtf8 s
  pub no_mark : (t : List ℕ) → s ≡ 0xef ∷ 0xbb ∷ 0xbf ∷ t → ⊥
  pub final : (t : List ℕ) × (s ≡ t ++ (0x00 ∷ []))

-- the numbers that apply
pub data Applies (s : List ℕ) : ℕ → Type 0 where
  by_start : {n : ℕ} → LongestStart s n → Applies s n
  by_mark : (t : List ℕ) → s ≡ 0xef ∷ 0xbb ∷ 0xbf ∷ t → Applies s 0
  by_zero : OnlyZero s → Applies s (length s - 1)

-- the smallest of them; of a text it is the length
pub record Smallest (s : List ℕ) (n : ℕ) : Type 0 where
  pub applies : Applies s n
  pub smallest : (m : ℕ) → Applies s m → n ≤ m

-- what is no text goes wrong at it
pub record GoesWrongAt (s : List ℕ) (n : ℕ) : Type 0 where
  pub no_text : IsText s → ⊥
  pub number : Smallest s n
