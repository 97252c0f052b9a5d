-- Numbers in bytes: the lowest byte first, and the highest byte first.
use Rattle.std.specs.Prelude.{◌≡◌, List, [], ◌∷◌, reverse, ℕ, zero, suc, ◌+◌, ◌*◌, ◌/◌, ◌%◌, ◌^◌, ◌<◌, length}

-- the number whose bytes are s, the lowest first
unfoldable pub number_low : List ℕ → ℕ
number_low [] = 0
number_low (b ∷ s) = b + 256 * number_low s

-- the n lowest bytes of x, the lowest first
unfoldable pub bytes_low : ℕ → ℕ → List ℕ
bytes_low zero x = []
bytes_low (suc n) x = x % 256 ∷ bytes_low n (x / 256)

-- the same, the highest first
unfoldable pub number_high : List ℕ → ℕ
number_high s = number_low (reverse s)

unfoldable pub bytes_high : ℕ → ℕ → List ℕ
bytes_high n x = reverse (bytes_low n x)

-- byte i of x, counted from the lowest
abbrev pub byte_of : ℕ → ℕ → ℕ
byte_of i x = x / 2 ^ (8 * i) % 256

-- every element is a byte
pub data Bytes : List ℕ → Type 0 where
  none : Bytes []
  more : {b : ℕ} {s : List ℕ} → b < 256 → Bytes s → Bytes (b ∷ s)

-- n bytes
pub record Sized (n : ℕ) (s : List ℕ) : Type 0 where
  pub long : length s ≡ n
  pub bytes : Bytes s
