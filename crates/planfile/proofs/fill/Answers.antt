-- The rows, then the trailer behind them.
use Rattle.std.proofs.Common.{refl}
use Rattle.planfile.specs.Writes.{filled}
use Rattle.planfile.proofs.fill.Goals as goal

pub returns : goal.returns
returns c = filled _ _ _ _ c.args.rows.now _ c.args.note refl c.requires.room c.put_rows.ensures c.put.ensures c.put-2.ensures
