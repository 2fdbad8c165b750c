-- Behind the rows so far, placing the jobs left comes to what placing all jobs comes to.
use Rattle.std.proofs.Common.{map, []}
use Rattle.rules.specs.Planning.{place_all}
use Rattle.ordering.specs.Records.{job_in}
use Rattle.planner.specs.Jobs.{SoFar, left_from}
use Rattle.planner.proofs.place_jobs.Given as goal

abbrev pub invariant-loop-record : goal.invariant-loop-record
invariant-loop-record l = SoFar (place_all [] l.fn.free (map job_in l.records)) l.fn.table l.free l.table l.rows
    (left_from l.others l.last l.record-index)
