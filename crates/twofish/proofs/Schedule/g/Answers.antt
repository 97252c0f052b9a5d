-- `twofish::Schedule::g` meets its contract: look-up by look-up.
use Rattle.twofish.specs.Tabled.{tabled_g}
use Rattle.twofish.proofs.Schedule.g.Goals as goal

pub returns : goal.returns
unfolding tabled_g
returns c = cc
