-- `chain::Chaining::decrypt_three` meets its contract: the three blocks are read before any is stored over.
use Rattle.std.proofs.Common.{ap, ◌∙◌}
use Rattle.twofish.specs.Twofish.{block_bytes}
use Rattle.twofish.specs.declared.Three.{Three}
use Rattle.twofish.proofs.Inverse.{block_bytes_sized}
use Rattle.chain.proofs.InPlace.{three_stored}
use Rattle.chain.proofs.Turns.{texts_of_lem}
use Rattle.chain.proofs.Chaining.decrypt_three.Goals as goal

pub returns : goal.returns
returns c =
    let u = c.texts-u in
    let t = c.load_three-t in
    let x = u.result.x in
    let y = u.result.y in
    let z = u.result.z in
    record {
      block = ap (λ (v : Three). v.z) t.ensures;
      memory =
          three_stored c.args.b.now (block_bytes x) (block_bytes y) (block_bytes z) c.requires
          (block_bytes_sized x).long (block_bytes_sized y).long (block_bytes_sized z).long
          (c.copy_from_slice.ensures.after ∙ c.bytes.ensures)
          (c.copy_from_slice-2.ensures.after ∙ c.bytes-2.ensures)
          (c.copy_from_slice-3.ensures.after ∙ c.bytes-3.ensures)
          ∙ texts_of_lem _ _ _ _ u.ensures t.ensures;
    }
