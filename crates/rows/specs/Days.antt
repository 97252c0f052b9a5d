-- "Days are expiry minus the given now, both unsigned 32-bit seconds, divided by 86,400 and rounded towards minus infinity; no expiry, or expiry 0, gives 2,147,483,647." (document 02, Q-6)
use Rattle.std.specs.Prelude.{ℕ, ◌+◌, ◌-◌, ◌*◌, ◌/◌, ◌%◌, ◌^◌, ◌<◌, ◌≤◌, ◌≡◌, cond, eqb}
use Rattle.fields.specs.declared.value.Value.{Value}

-- expiry minus now, divided by 86,400 and rounded towards minus infinity, as 32 bits hold it in two's complement: 2^32 days more keep the difference from falling below 0, and leave these bits as they are
unfoldable pub days_between : ℕ → ℕ → ℕ
days_between expiry now = (expiry + 86400 * 2 ^ 32 - now) / 86400 % 2 ^ 32

-- the stored number w stands for the d with 86,400 d ≤ expiry - now < 86,400 (d + 1): for w itself at or ahead of now, and behind now for -k, where w + k is 2^32
pub record Rounded (expiry now w : ℕ) : Type 0 where
  pub ahead : now ≤ expiry → (86400 * w ≤ expiry - now) × (expiry - now < 86400 * (w + 1))
  pub behind : expiry < now → (k : ℕ) × (w + k ≡ 2 ^ 32) × (1 ≤ k) × (86400 * (k - 1) < now - expiry) × (now - expiry ≤ 86400 * k)

-- the days of an expiry
unfoldable pub days_of : Value → ℕ → ℕ
days_of (Value.Time s) now = cond (eqb s 0) 2147483647 (days_between s now)
days_of _ now = 2147483647
