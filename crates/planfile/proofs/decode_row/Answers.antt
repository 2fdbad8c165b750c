-- The four loads are the four fields of the row.
use Rattle.planfile.specs.Rows.{decoded}
use Rattle.planfile.proofs.decode_row.Goals as goal

pub returns : goal.returns
returns c = decoded c.args.part.now c.args.i _ _ _ _ c.load.ensures c.load-2.ensures c.load-3.ensures c.load-4.ensures
