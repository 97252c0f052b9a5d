-- How the code keeps the members of a batch. Nothing here is to be believed: no contract of a public function mentions it.
use Rattle.std.specs.Prelude.{ℕ, ◌+◌, ◌-◌, ◌*◌, ◌/◌, ◌%◌, ◌<◌, ◌≤◌, ◌≡◌, Bool, true, false, List, length, get_or, set, take, drop}
use Rattle.words.specs.Numbers.{number_low}
use Rattle.uuids.specs.declared.table.Look.{Look}
use Rattle.uuids.specs.declared.table.Look.TheVariants.{Known, Free, Full}

-- a test's answer tells whether P
abbrev pub Tells : Bool → Type 0 → Type 0
Tells true P = P
Tells false P = P → ⊥

-- the 16 bytes at place p
abbrev pub id_at : List ℕ → ℕ → List ℕ
id_at s p = take 16 (drop p s)

-- the slot at which the look-up of u starts: any number of its bytes would do, and this one spreads
unfoldable pub start_of : List ℕ → ℕ
start_of u =
    (number_low (take 4 u) + 3 * number_low (take 4 (drop 4 u)) + 5 * number_low (take 4 (drop 8 u)) + 7 * number_low (take 4 (drop 12 u)))
    % 4294967296 * 2654435769 % 4294967296 * 24576 / 4294967296

-- where the member of block v stands, in a batch whose first stands at base: blocks of 16 bytes, counted from 1
abbrev pub place_of : ℕ → ℕ → ℕ
place_of base v = base + 16 * (v - 1)

abbrev pub Taken : List ℕ → ℕ → Type 0
Taken slots i = 0 < get_or slots i 0

-- slot i is taken, by u or by another
abbrev pub Holds : List ℕ → ℕ → List ℕ → List ℕ → ℕ → Type 0
Holds s base slots u i = Taken slots i × (id_at s (place_of base (get_or slots i 0)) ≡ u)

abbrev pub Other : List ℕ → ℕ → List ℕ → List ℕ → ℕ → Type 0
Other s base slots u i = Taken slots i × (id_at s (place_of base (get_or slots i 0)) ≡ u → ⊥)

-- there are 26,624 slots, and what is taken stands in s
pub record Slots (s : List ℕ) (base : ℕ) (slots : List ℕ) : Type 0 where
  pub long : length slots ≡ 26624
  pub inside : (i : ℕ) → Taken slots i → base + 16 * get_or slots i 0 ≤ length s

-- what a look-up of u says
abbrev pub Looks : List ℕ → ℕ → List ℕ → List ℕ → Look → Type 0
Looks s base slots u Known = (i : ℕ) × Holds s base slots u i
Looks s base slots u (Free i) = (start_of u ≤ i) × (i < 26624) × (get_or slots i 0 ≡ 0) × ((j : ℕ) → start_of u ≤ j → j < i → Other s base slots u j)
Looks s base slots u Full = (j : ℕ) → start_of u ≤ j → j < 26624 → Other s base slots u j

-- the slots before and after; true: block v has taken a free slot
abbrev pub TakenIn : List ℕ → Bool → Look → ℕ → List ℕ → Bool → Type 0
TakenIn slots g l v t true = (i : ℕ) × (l ≡ Free i) × (g ≡ true) × (t ≡ set slots i v)
TakenIn slots g l v t false = t ≡ slots
