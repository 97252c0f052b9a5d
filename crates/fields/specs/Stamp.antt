-- An old save stamp: header note 5 of document 002, as document 02, Q-2, takes it up.
use Rattle.std.specs.Prelude.{ℕ, ◌≡◌, ◌⊎◌, Bool, false, List, length}

-- r: in a record, not in the header; k: the type; d: the data
pub record OldStamp (r : Bool) (k : ℕ) (d : List ℕ) : Type 0 where
  pub header : r ≡ false
  pub kind : (k ≡ 0x04) ⊎ (k ≡ 0x13)
  pub eight : length d ≡ 8
