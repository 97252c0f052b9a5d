-- `chain::Chaining::texts` meets its contract: text by text.
use Rattle.chain.proofs.Turns.{texts_made}
use Rattle.chain.proofs.Chaining.texts.Goals as goal

pub returns : goal.returns
returns c =
    let a = c.args in
    texts_made a.self.now.mode _ a.prev a.t c.decrypt_three-u.ensures c.chained-x.ensures c.chained-y.ensures c.chained-z.ensures
