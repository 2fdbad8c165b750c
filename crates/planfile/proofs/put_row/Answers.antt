-- The four numbers of a row are its twelve bytes.
use Rattle.laws.specs.Meant.{row_meant}
use Rattle.planfile.specs.Stores.{put_row}
use Rattle.planfile.proofs.put_row.Goals as goal

pub returns : goal.returns
returns c = put_row _ _ _ _ _ c.args.at (row_meant c.args.row) c.requires c.put.ensures c.put-2.ensures c.put-3.ensures c.put-4.ensures
