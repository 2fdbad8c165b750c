-- Each job is the next of those left; the last one finds none behind it.
use Rattle.std.proofs.Common.{rules}
use Rattle.planner.specs.Jobs.{no_jobs, so_far_start, told_end, other_stop, other_again, last_stop, last_again}
use Rattle.planner.proofs.place_jobs.Goals as goal

pub returns-in_default : goal.returns-in_default
returns-in_default c = no_jobs _ _ _ c.in_default.ensures.cases

pub loop-record-init : goal.loop-record-init
loop-record-init c = so_far_start _ _ _ _ _ c.requires c.in-Some.ensures.cases.0

pub returns-in_default-place_other : goal.returns-in_default-place_other
returns-in_default-place_other c =
    other_stop _ _ _ _ _ _ _ _ c.loop-record.invariant c.loop-record-test.true _ c.job_in-job.ensures _ _ _
    c.place_other.ensures c.in_default-place_other.is _ c.no_plan.ensures _

pub overflow_add-rows : goal.overflow_add-rows
overflow_add-rows c =
    let next = other_again _ _ _ _ _ _ _ _ c.loop-record.invariant c.loop-record-test.true _ c.job_in-job.ensures _ _ _
    c.place_other.ensures _ c.in-Some-place_other.is c.place_other.auto.free in
    search (rules, next.bounded)

pub loop-record-preserved : goal.loop-record-preserved
loop-record-preserved c =
    other_again _ _ _ _ _ _ _ _ c.loop-record.invariant c.loop-record-test.true _ c.job_in-job.ensures _ _ _
    c.place_other.ensures _ c.in-Some-place_other.is c.place_other.auto.free

pub returns-in_default-place_last : goal.returns-in_default-place_last
returns-in_default-place_last c =
    last_stop _ _ _ _ _ _ _ _ c.loop-record.invariant c.loop-record-test.false _ c.job_in-job-2.ensures _ _ _
    c.place_last.ensures c.in_default-place_last.is _ c.no_plan-in_default-place_last.ensures _

pub overflow_add-rows-2 : goal.overflow_add-rows-2
overflow_add-rows-2 c =
    let next = last_again _ _ _ _ _ _ _ _ c.loop-record.invariant c.loop-record-test.false _ c.job_in-job-2.ensures _ _ _
    c.place_last.ensures _ c.in-Some-place_last.is c.place_last.auto.free in
    search (rules, next.bounded)

pub overflow_cast-result : goal.overflow_cast-result
overflow_cast-result c =
    let next = last_again _ _ _ _ _ _ _ _ c.loop-record.invariant c.loop-record-test.false _ c.job_in-job-2.ensures _ _ _
    c.place_last.ensures _ c.in-Some-place_last.is c.place_last.auto.free in
    search (rules, next.bounded)

pub returns : goal.returns
returns c =
    told_end _ _ _ _ _
    (last_again _ _ _ _ _ _ _ _ c.loop-record.invariant c.loop-record-test.false _ c.job_in-job-2.ensures _ _ _
    c.place_last.ensures _ c.in-Some-place_last.is c.place_last.auto.free)
