-- The rows stand at the table's front, and clearing behind them gives the definition's table; 9 counts no rows.
use Rattle.planner.specs.Days.{told_cleared}
use Rattle.planner.proofs.plan_records.Goals as goal

pub returns : goal.returns
returns c =
    rw c.clear_from.ensures (told_cleared _ _ _ _ c.place_jobs-said.ensures c.place_jobs-said.auto.table _ c.unwrap_or.ensures)
