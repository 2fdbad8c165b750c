-- The planner's answer is the definition's, of which crates/theory proves that it is right.
use Rattle.theory.proofs.Answers.{said_right}
use Rattle.border.proofs.tuffbasket_plan.Goals as goal

pub returns : goal.returns
returns c =
    let w = said_right c.args.boards c.args.work.now c.args.due.now c.args.table.now c.plan.result c.plan.new.table
    c.plan.ensures.said c.plan.ensures.later in
    record {
      said = c.plan.ensures.said;
      later = c.plan.ensures.later;
      plan = w.plan;
      none = w.none;
      few = w.few;
      busy = w.busy;
      checked = w.checked;
    }
