-- talc_write.
use Rattle.std.specs.Prelude.{ℕ, ◌≡◌, List, length}
use Rattle.file.specs.Writing.{Values, writing_of}
use Rattle.safe.specs.V3.{v3_edition}

-- the output holds `before` at first, of which only the length counts
pub record TalcWrite (passphrase salt : List ℕ) (iter : ℕ) (k l iv body before : List ℕ) (number : ℕ) (output : List ℕ) : Type 0 where
  pub values : Values salt iter k l iv body
  pub is_number : number ≡ (writing_of v3_edition passphrase salt iter k l iv body (length before)).number
  pub is_output : output ≡ (writing_of v3_edition passphrase salt iter k l iv body (length before)).output
