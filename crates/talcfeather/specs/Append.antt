-- talc_append: its answer is one number, the next place.
use Rattle.std.specs.Prelude.{ℕ, ◌≡◌, List}
use Rattle.fields.specs.Stored.{Stored}
use Rattle.fields.specs.Append.{Appended, append_of, buffer_after, append_number, append_values}
use Rattle.talcfeather.specs.Numbers.{with_zeros, in_bytes}

-- zero where refused
abbrev pub append_numbers : Appended → List ℕ
append_numbers a = with_zeros 1 (append_values a)

-- the field f to a buffer that holds `before`, at a place
pub record TalcAppend (before : List ℕ) (place : ℕ) (f : Stored) (number : ℕ) (buffer next : List ℕ) : Type 0 where
  pub is_number : number ≡ append_number (append_of before place f)
  pub is_buffer : buffer ≡ buffer_after (append_of before place f) before place f
  pub is_next : next ≡ in_bytes (append_numbers (append_of before place f))
