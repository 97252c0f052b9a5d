-- `twofish::Schedule::new` meets its contract: table by table.
use Rattle.twofish.specs.Tabled.{schedule_of}
use mathlib.Core.Path.{refl}
use Rattle.twofish.proofs.Schedule.new.Goals as goal

pub returns : goal.returns
unfolding schedule_of
returns c =
    rw (
      c.fill.ensures,
      c.fill-2.ensures,
      c.fill-3.ensures,
      c.fill-4.ensures,
      c.box_key-s.ensures,
      c.subkeys.ensures,
      c.tables.ensures.first,
      c.tables.ensures.second,
    )
    refl
