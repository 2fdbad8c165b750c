-- The first number's digits, then the other three as fields.
use Rattle.lines.specs.Fields.{row_put, tail_room}
use Rattle.lines.proofs.Page.row.Goals as goal

pub fields-requires : goal.fields-requires
fields-requires c = tail_room c.args.row.now c.requires.four c.requires.room c.decimal.ensures

pub returns : goal.returns
returns c = row_put c.args.row.now c.requires.four c.requires.room c.decimal.ensures c.fields.ensures
