-- The digits put and the digits left to put are together those of the number.
use Rattle.lines.specs.Fields.{digits_none, digits_next, digits_done, digits_room}
use Rattle.lines.proofs.Page.decimal.Goals as goal

pub loop-power-init : goal.loop-power-init
loop-power-init c = digits_none _ _ _ c.lead-power.ensures

pub byte-requires : goal.byte-requires
byte-requires c = digits_room c.requires c.loop-power-test.true c.loop-power.invariant

pub loop-power-preserved : goal.loop-power-preserved
loop-power-preserved c =
    digits_next _ c.requires c.loop-power-test.true c.loop-power.invariant c.digit.ensures c.byte.ensures

pub returns : goal.returns
returns c = digits_done c.loop-power-test.false c.loop-power.invariant
