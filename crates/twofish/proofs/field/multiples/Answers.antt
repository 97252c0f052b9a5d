-- `twofish::field::multiples` meets its contract: computed at every byte.
use Rattle.twofish.proofs.ColumnSums.{is_5b, is_ef}
use Rattle.twofish.proofs.field.multiples.Goals as goal

pub returns : goal.returns
returns c =
    let x = c.args.x in
    record { first = cc (is_5b x c.ranges.x.fits); second = cc (is_ef x c.ranges.x.fits) }
