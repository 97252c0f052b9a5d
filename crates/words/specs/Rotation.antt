-- Rotation of a word x of w bits by n places.
use Rattle.std.specs.Prelude.{ℕ, ◌+◌, ◌-◌, ◌*◌, ◌/◌, ◌%◌, ◌^◌}

-- to the right: the n low bits become the high ones
unfoldable pub rotate_right : ℕ → ℕ → ℕ → ℕ
rotate_right w n x = x % 2 ^ n * 2 ^ (w - n) + x / 2 ^ n

-- to the left: the n high bits become the low ones
unfoldable pub rotate_left : ℕ → ℕ → ℕ → ℕ
rotate_left w n x = x % 2 ^ (w - n) * 2 ^ n + x / 2 ^ (w - n)
