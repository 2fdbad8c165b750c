-- The part is whole rows, so behind its last one nothing stands.
use Rattle.std.proofs.Common.{arith, ap, length}
use Rattle.planfile.specs.Rows.{none_behind}
use Rattle.planfile.proofs.file_row.Goals as goal

pub returns-then-part-i : goal.returns-then-part-i
returns-then-part-i c = none_behind c.args.file.now c.args.i (omega (arith, ap length c.row_part-part.ensures))
