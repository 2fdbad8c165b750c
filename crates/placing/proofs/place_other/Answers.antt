-- Each test of one room stands for the step's test of every room.
use Rattle.std.proofs.Common.{rules}
use Rattle.placing.specs.Writes.{least_ready, other_none, other_wrote, other_split}
use Rattle.placing.proofs.place_other.Goals as goal

pub returns-then-most_room-job : goal.returns-then-most_room-job
returns-then-most_room-job c = search (rules, other_none)

pub add_row-requires : goal.add_row-requires
add_row-requires c =
    least_ready _ _ _ c.args.job.due _ _ c.requires c.least_above-least.ensures c.if-job-least.true (search rules) (search rules)

pub returns-then-job-least : goal.returns-then-job-least
returns-then-job-least c = search (rules, other_wrote)

pub returns : goal.returns
returns c = search (rules, other_split)
