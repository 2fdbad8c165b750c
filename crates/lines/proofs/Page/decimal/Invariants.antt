-- The digits put and the digits left to put are together those of the number.
use Rattle.lines.specs.Fields.{DigitsPut}
use Rattle.lines.proofs.Page.decimal.Given as goal

abbrev pub invariant-loop-power : goal.invariant-loop-power
invariant-loop-power l = DigitsPut l.initial.self l.self l.n l.power

abbrev pub decreases-loop-power : goal.decreases-loop-power
decreases-loop-power l = l.power
