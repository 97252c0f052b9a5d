-- `twofish::key::every_other` meets its contract: place by place.
use Rattle.words.specs.Table.{at}
use Rattle.words.proofs.Tables.{is_table}
use Prim.Native.Nat.{ℕ, ◌+◌, ◌*◌, ◌/◌, ◌%◌}
use borrow.Author.Rules.{rules}
use Rattle.words.proofs.FromFn.{from_each}
use Rattle.twofish.proofs.key.every_other.Goals as goal

pub returns : goal.returns
returns c =
    let a = c.args in
    let h = c.from_fn.ensures.items in
    is_table 16 (λ (k : ℕ). at a.m.now (8 * (k / 4) + k % 4 + a.from)) c.from_fn.result h.long
    (from_each _ _ (λ (k : ℕ). at a.m.now (8 * (k / 4) + k % 4 + a.from)) 16 (λ i r q l u. (search rules, (λ t. (u.met.1.0 t, u.met.1.1 t)))) c.from_fn.result h)
