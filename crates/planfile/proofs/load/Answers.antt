-- The bytes, with zeros behind them, are the number.
use Rattle.planfile.specs.Stores.{loaded}
use Rattle.planfile.proofs.load.Goals as goal

pub returns : goal.returns
returns g c =
    loaded c.args.s.now _ c.args.at g.row.N _ c.requires.short c.requires.inside c.copy_from_slice.ensures.after c.from_le_bytes.ensures
