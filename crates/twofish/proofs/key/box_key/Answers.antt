-- `twofish::key::box_key` meets its contract: place by place.
use Rattle.words.proofs.Tables.{is_table}
use Rattle.twofish.specs.Field.{dot}
use Rattle.twofish.specs.Key.{RS, eight, box_key}
use mathlib.Core.List.{[]}
use Prim.Native.Nat.{ℕ, ◌-◌, ◌*◌, ◌/◌, ◌%◌}
use borrow.Author.Rules.{rules}
use lib.ListN.{get_or}
use Rattle.words.proofs.FromFn.{from_each}
use Rattle.twofish.proofs.key.box_key.Goals as goal

pub returns : goal.returns
unfolding box_key
returns c =
    let m = c.args.m.now in
    let h = c.from_fn.ensures.items in
    let f : ℕ → ℕ = λ n. dot 0x14D 0 (get_or RS (n % 4) []) (eight m (24 - 8 * (n / 4))) in
    is_table 16 f c.from_fn.result h.long
    (from_each _ _ f 16 (λ i r q l u. (search rules, (λ t. record { 0 = u.met.1 t }))) c.from_fn.result h)
