-- What a row can't hold: "A text too long or BadText, one with a zero byte, or a Misshapen expiry" (document 02, Q-6).
use Rattle.std.specs.Prelude.{ℕ, ◌^◌, ◌<◌, ◌≡◌, Bool, true, false, ◌||◌, List, ltb, length}
use Rattle.words.specs.Members.{among}
use Rattle.fields.specs.Value.{value_of}
use Rattle.fields.specs.declared.value.Value.{Value}
use Rattle.rows.specs.Login.{Login}

abbrev pub is_bad_text : Value → Bool
is_bad_text (Value.BadText n) = true
is_bad_text _ = false

abbrev pub is_misshapen : Value → Bool
is_misshapen Value.Misshapen = true
is_misshapen _ = false

-- d: the data of a record's field of type k, for a room of n bytes
unfoldable pub unfit : ℕ → ℕ → List ℕ → Bool
unfit k n d = ltb n (length d) || (is_bad_text (value_of true k d) || among 0 d)

-- what a row holds: a UUID of 16 bytes, texts that are not refused, and any days
pub record Fits (l : Login) : Type 0 where
  pub uuid : length l.uuid ≡ 16
  pub title : unfit 0x03 80 l.title ≡ false
  pub user : unfit 0x04 80 l.user ≡ false
  pub group : unfit 0x02 72 l.group ≡ false
  pub days : l.days < 2 ^ 32
