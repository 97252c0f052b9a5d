-- `talcfeather::read::lay` meets its contract: each key fills its half.
use mathlib.Core.Path.{sym}
use native.Mathlib.Omega.{arith}
use lib.Seq.{length-take-le}
use Rattle.talcfeather.proofs.Keys.{two_halves}
use Rattle.talcfeather.proofs.read.lay.Goals as goal

pub slice_bounds-copy_from_slice-end-2 : goal.slice_bounds-copy_from_slice-end-2
slice_bounds-copy_from_slice-end-2 c = sym (length-take-le 32 c.args.answer.now (omega arith))

pub copy_from_slice-requires : goal.copy_from_slice-requires
copy_from_slice-requires c = omega (arith, length-take-le 32 c.args.answer.now (omega arith))

pub returns : goal.returns
returns c =
    let a = c.args in
    two_halves a.answer.now a.k.now a.l.now _ _ c.requires (omega arith) c.copy_from_slice.ensures.after c.copy_from_slice-2.ensures.after
