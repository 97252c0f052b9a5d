-- The test of the passphrase says that SHA-256 of P' is what stands in the file: the check is one step of the stretcher more, and such a step is a hash.
use Prim.Native.Nat.{ℕ}
use mathlib.Core.Path.{sym, ◌∙◌}
use mathlib.Core.Logic.{◌↔◌}
use mathlib.Core.List.{List}
use Rattle.words.specs.Numbers.{number_low}
use Rattle.stretch.specs.Stretch.{start_of, step_of, stretched_of, key_of}
use Rattle.stretch.proofs.Counts.{step_key}
use Rattle.file.specs.Layout.{split}
use Rattle.file.proofs.Glue.{same_of, same_is}
use Rattle.file.proofs.Passed.{Matches}
use Rattle.safe.specs.V3.{v3, stretched_v3}
use Rattle.safe.specs.Calls.{salt_in, iter_in, check_in, Matching}

module _ (passphrase file : List ℕ) where
  pub matching : Matching passphrase file ↔ Matches (split file) (v3.stretched passphrase (split file).salt (number_low (split file).iter))
  unfolding v3 stretched_v3 split
  matching =
      let s = stretched_of (iter_in file) (start_of passphrase (salt_in file)) in (
        λ h. record { t8 = same_is (key_of (step_of s)) (check_in file) (step_key s ∙ h) },
        λ m. sym (step_key s) ∙ same_of (key_of (step_of s)) (check_in file) m.t8,
      )
