-- The room found decides; the row of the definition is the one that `add_row` wrote.
use Rattle.std.proofs.Common.{rules}
use Rattle.placing.specs.Writes.{greatest_ready, last_none, last_wrote}
use Rattle.placing.proofs.place_last.Goals as goal

pub returns-then-most-job : goal.returns-then-most-job
returns-then-most-job c = search (rules, last_none)

pub add_row-requires : goal.add_row-requires
add_row-requires c =
    greatest_ready _ _ _ c.args.job.due _ _ c.requires c.most_room-most.ensures c.if-most-job.false (search rules) (search rules)

pub returns : goal.returns
returns c = search (rules, last_wrote)
