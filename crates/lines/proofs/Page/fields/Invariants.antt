-- The fields put and those that follow are together those of the numbers.
use Rattle.lines.specs.Fields.{FieldsPut}
use Rattle.lines.proofs.Page.fields.Given as goal

abbrev pub invariant-loop-n : goal.invariant-loop-n
invariant-loop-n l = FieldsPut l.initial.self l.self l.numbers l.n-index
