-- The fields put and those that follow are together those of the numbers.
use Rattle.std.proofs.Common.{arith}
use Rattle.lines.specs.Pages.{room_left}
use Rattle.lines.specs.Fields.{fields_none, fields_more, fields_done}
use Rattle.lines.proofs.Page.fields.Goals as goal

pub loop-n-init : goal.loop-n-init
loop-n-init c = fields_none _ _

pub field-requires : goal.field-requires
field-requires c = room_left _ (omega arith) c.loop-n.invariant.put

pub loop-n-preserved : goal.loop-n-preserved
loop-n-preserved c = fields_more _ _ c.requires c.loop-n-test.true c.loop-n.invariant c.field.ensures

pub byte-requires : goal.byte-requires
byte-requires c = room_left _ (omega arith) c.loop-n.invariant.put

pub returns : goal.returns
returns c = fields_done _ _ c.requires (omega arith) c.loop-n.invariant c.byte.ensures
