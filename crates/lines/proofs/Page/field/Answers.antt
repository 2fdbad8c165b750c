-- The space, then the digits behind it.
use Rattle.std.proofs.Common.{arith}
use Rattle.lines.specs.Pages.{puts_then, room_left}
use Rattle.lines.proofs.Page.field.Goals as goal

pub decimal-requires : goal.decimal-requires
decimal-requires c = room_left _ (omega arith) c.byte.ensures

pub returns : goal.returns
returns c = puts_then c.requires c.byte.ensures c.decimal.ensures
