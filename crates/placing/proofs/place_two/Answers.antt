-- Where A does not take the whole job, B exists and is another board, so B's row starts where the definition says.
use Rattle.std.proofs.Common.{arith, rules}
use Rattle.laws.specs.Meant.{job_meant}
use Rattle.placing.specs.Writes.{greatest_ready, whole_wrote, split, second_ready, both_wrote}
use Rattle.placing.proofs.place_two.Goals as goal

pub add_row-requires : goal.add_row-requires
add_row-requires c =
    greatest_ready _ _ _ c.args.job.due _ _ c.requires.ready c.greatest_up_to-a.ensures (omega arith) (search rules) (search rules)

pub returns-then-a-job : goal.returns-then-a-job
returns-then-a-job c = search (rules, whole_wrote)

pub add_row-requires-2 : goal.add_row-requires-2
add_row-requires-2 c =
    greatest_ready _ _ _ c.args.job.due _ _ c.requires.ready c.greatest_up_to-a.ensures (omega arith) (search rules) (search rules)

pub overflow_sub-left : goal.overflow_sub-left
overflow_sub-left c =
    let both = split _ (job_meant c.args.job) _ _ c.requires.ready.some c.requires.fits c.greatest_up_to-a.ensures
    c.least_above-b.ensures c.if-a-job.false in
    omega (arith, both.low)

pub add_row-requires-3 : goal.add_row-requires-3
add_row-requires-3 c =
    let both = split _ (job_meant c.args.job) _ _ c.requires.ready.some c.requires.fits c.greatest_up_to-a.ensures
    c.least_above-b.ensures c.if-a-job.false in
    second_ready _ c.args.table.now _ _ _ both _ _ c.add_row-2.ensures.free_after c.add_row-2.ensures.table_after
    c.requires.ready c.add_row-2.auto.table (search rules) (search rules)

pub returns : goal.returns
returns c =
    let both = split _ (job_meant c.args.job) _ _ c.requires.ready.some c.requires.fits c.greatest_up_to-a.ensures
    c.least_above-b.ensures c.if-a-job.false in
    both_wrote _ _ _ _ _ both _ _ c.add_row-2.ensures.free_after c.add_row-2.ensures.table_after _ _
    c.add_row-3.ensures.free_after c.add_row-3.ensures.table_after
