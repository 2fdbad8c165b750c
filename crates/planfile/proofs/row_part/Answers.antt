-- The part that was found lies within the file.
use Rattle.planfile.specs.Parts.{part_lent}
use Rattle.planfile.proofs.row_part.Goals as goal

pub returns : goal.returns
returns c = part_lent c.args.file.now _ _ c.unwrap_or-from.ensures c.place_rows.ensures.said
