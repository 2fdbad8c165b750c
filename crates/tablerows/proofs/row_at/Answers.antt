-- Four numbers from 4 × i on.
use Rattle.std.proofs.Common.{◌∙◌}
use Rattle.tablerows.specs.Places.{row_read}
use Rattle.tablerows.proofs.row_at.Goals as goal

pub returns : goal.returns
returns c = c.row_in.ensures ∙ row_read c.args.table.now c.args.i
