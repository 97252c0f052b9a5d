-- `probe::probe_stretch` meets its contract: the count and the bytes are those of the state after ITER steps.
use mathlib.Core.Path.{◌≡◌, ap, ◌∙◌}
use Rattle.stretch.specs.Stretch.{start_of, stretched_of, key_of}
use Rattle.stretch.specs.declared.Stretcher.{Stretcher}
use Rattle.probe.proofs.probe_stretch.Goals as goal

pub returns : goal.returns
returns c =
    let a = c.args in
    let s : c.stretched-s.result ≡ stretched_of a.iter (start_of a.passphrase.now a.salt.now) = c.stretched-s.ensures ∙ ap (stretched_of a.iter) c.start.ensures in
    record { answer = ap (λ (x : Stretcher). x.count) s; memory = c.key.ensures ∙ ap key_of s }
