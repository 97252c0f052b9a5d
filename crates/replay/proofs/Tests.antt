-- No test is true and false: by congruence.
use mathlib.Core.Path.{◌≡◌}
use mathlib.Core.Bool.{true, false}

pub no : {A : Type 0} → true ≡ false → A
no e = absurd (cc)
