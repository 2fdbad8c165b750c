-- The word, the first line's numbers as fields, then the rows.
use Rattle.std.proofs.Common.{arith, refl, rules}
use Rattle.lines.specs.Pages.{puts_then, room_left, page_put}
use Rattle.lines.specs.Fields.{planned}
use Rattle.lines.proofs.put_plan.Goals as goal

pub fields-requires : goal.fields-requires
fields-requires c = room_left _ (omega arith) c.text.ensures

pub rows-requires-clause-room : goal.rows-requires-clause-room
rows-requires-clause-room c =
    room_left _ (omega arith) (puts_then (omega arith) c.text.ensures c.fields.ensures)

pub returns : goal.returns
unfolding planned
returns c =
    page_put refl (puts_then (omega arith) c.text.ensures
    (puts_then (room_left _ (omega arith) c.text.ensures) c.fields.ensures c.rows.ensures)) (search rules)
