-- `replay::standing` meets its contract: what is found is an entry of the state.
use mathlib.Core.Path.{sym, ◌∙◌}
use native.Mathlib.Omega.{arith}
use Rattle.replay.proofs.Places.{found_place}
use Rattle.replay.proofs.standing.Goals as goal

pub entry-requires : goal.entry-requires
entry-requires c =
    let f = found_place c.in-Some.state.now c.args.uuid.now c.in-Some-place.i (sym c.in-Some-place.is ∙ c.place.ensures) in
    omega (arith, f.0, f.1)
