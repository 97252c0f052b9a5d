-- `body::search::seek` meets its contract: it goes on from the start, with nothing visited.
use Rattle.body.proofs.Hunt.{at_zero}
use Rattle.body.proofs.search.seek.Goals as goal

pub returns : goal.returns
returns c = rw (c.seek_on.ensures, at_zero c.default.result c.default.ensures, c.start.ensures)
