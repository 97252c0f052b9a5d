-- `sha256::hash::Running::take_in` meets its contract: the block is left open, or it is ended and the rest follows.
use Rattle.std.proofs.Common.{ℕ, ◌-◌, ◌%◌, List, ◌++◌, ap, ◌∙◌, append_assoc, take-append-drop, ap₂}
use Rattle.sha256.specs.Running.{running_of}
use Rattle.sha256.proofs.hash.Running.take_in.Goals as goal

pub returns : goal.returns
returns c m e =
    let k = 64 - c.args.self.len % 64 in
    c.rest.ensures (m ++ c.split_at.result.0.now) (c.closed.ensures.1 m e)
    ∙ ap running_of (append_assoc m _ _ ∙ ap (λ (x : List ℕ). m ++ x) (ap₂ ◌++◌ c.split_at.ensures.front c.split_at.ensures.back ∙ take-append-drop k c.args.s.now))
