-- Texts that the code tells at a glance: every byte is 01 to 7f. No statement needs this; such a text is refused for its length alone (proofs/Sevenbit.antt).
use Rattle.std.specs.Prelude.{ℕ, Bool, ◌&&◌, List, ltb}
use Rattle.std.specs.List.{list_all}

abbrev pub plain_byte : ℕ → Bool
plain_byte b = ltb 0 b && ltb b 0x80

abbrev pub is_plain : List ℕ → Bool
is_plain d = list_all plain_byte d
