-- `stretch::first::padding_byte` meets its contract, by the laws of the padding's three parts.
use Rattle.std.proofs.Common.{◌≡◌, ℕ, ◌-◌, ◌*◌, List, get_or, sym, ap, ◌∙◌, arith, rules}
use Rattle.words.specs.Numbers.{bytes_high}
use Rattle.words.proofs.Conversions.{to_be_wide}
use Rattle.words.proofs.NumberLaws.{bytes_mod_high}
use Rattle.sha256.specs.Sha256.{zeros_after, padding}
use Rattle.sha256.proofs.Padded.{padding_first, padding_zero, padding_rest}
use Rattle.stretch.proofs.first.padding_byte.Goals as goal

pub returns-then-k-eq0 : goal.returns-then-k-eq0
returns-then-k-eq0 c = sym (ap (λ (k : ℕ). get_or (padding c.args.n) k 0) c.if-k-eq0.true ∙ padding_first c.args.n)

pub returns-then-k-z : goal.returns-then-k-z
returns-then-k-z c = sym (padding_zero c.args.n c.args.k (omega arith) c.if-k-z.true)

pub returns-else-k-z : goal.returns-else-k-z
returns-else-k-z c =
    let n = c.args.n in
    let j : ℕ = c.args.k - zeros_after n - 1 in
    let e : n * 8 ≡ 8 * n = omega arith in
    let b : c.to_be_bytes-bits.result ≡ bytes_high 8 (8 * n) = c.to_be_bytes-bits.ensures ∙ to_be_wide _ ∙ bytes_mod_high 8 (n * 8) ∙ ap (bytes_high 8) e in
    let g : c.unwrap_or.result ≡ get_or c.to_be_bytes-bits.result j 0 = search rules in
    g ∙ ap (λ (l : List ℕ). get_or l j 0) b ∙ sym (padding_rest n c.args.k c.if-k-z.false)
