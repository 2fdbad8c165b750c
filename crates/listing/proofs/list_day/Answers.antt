-- A day that is refused has its refusal's line, one that is planned its figures and rows.
use Rattle.std.proofs.Common.{arith}
use Rattle.std.proofs.lemmas.Result.{err_from_is_err_and}
use Rattle.listing.specs.Listed.{rows_said, day_refused, day_planned}
use Rattle.listing.proofs.list_day.Goals as goal

pub returns-in_err-rows : goal.returns-in_err-rows
returns-in_err-rows c =
    let p = err_from_is_err_and c.from_residual.result c.from_residual.ensures.1 in
    rw (p.1, p.2) (day_refused c.args.boards c.args.work.now c.args.due.now _ c.args.lines.now _ (omega arith) c.in_err-rows.ensures.said)

pub put_plan-requires : goal.put_plan-requires
put_plan-requires c =
    omega (
      arith,
      rows_said c.args.boards c.args.work.now c.args.due.now _ _ c.plan_rows.new.table c.in_ok-rows.ensures.said c.plan_rows.ensures.later,
      c.plan_rows.auto.table,
      c.requires.few,
    )

pub returns : goal.returns
returns c =
    day_planned c.args.boards c.args.work.now c.args.due.now _ c.in_ok-rows.rows c.plan_rows.new.table c.args.lines.now
    c.put_plan.new.b c.put_plan.result c.requires.pairs (omega arith) c.in_ok-rows.ensures.said c.plan_rows.ensures.later (rw c.saturating_sub.ensures at c.put_plan.ensures)
