-- `twofish::Schedule::whiten` meets its contract: by its definition.
use Rattle.twofish.specs.Cipher.{whiten}
use mathlib.Core.Path.{refl}
use Rattle.twofish.proofs.Schedule.whiten.Goals as goal

pub returns : goal.returns
unfolding whiten
returns c = refl
