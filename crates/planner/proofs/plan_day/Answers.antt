-- The front of the local zeros is a free-from minute of 0 for each board, and the records are the jobs in due order.
use Rattle.std.proofs.Common.{◌≡◌, ◌∙◌, length, refl, arith, length-take-le}
use Rattle.planner.specs.Days.{answered_day}
use Rattle.planner.proofs.plan_day.Goals as goal

pub returns : goal.returns
returns c =
    let long : length c.due_order.new.records ≡ length c.args.work.now = c.due_order.auto.records
    ∙ length-take-le _ _ (omega (arith, c.requires.few_jobs)) in
    answered_day _ _ _ _ c.requires _ _ _ _ _ c.plan_records.ensures refl long c.due_order.ensures
