-- `mac::of_body` meets its contract: the empty message, then all that is covered.
use mathlib.Core.List.{[]}
use Rattle.body.specs.Decision.{covered_of}
use Rattle.mac.proofs.of_body.Goals as goal

pub returns : goal.returns
returns c =
    let g = c.args in
    c.finish.ensures g.l.now (covered_of g.body.now) (c.feed.ensures g.l.now [] c.start-st.ensures)
