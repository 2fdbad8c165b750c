-- Each return has made the definition's tests up to its own, in the definition's order.
use Rattle.std.proofs.Common.{sym, ◌∙◌}
use Rattle.planner.specs.Days.{tested_12, tested_13, tested_10, tested_14, tested_good, out_fits}
use Rattle.planner.proofs.test_day.Goals as goal

pub returns-then-bad_boards : goal.returns-then-bad_boards
returns-then-bad_boards c = tested_12 _ _ _ _ _ c.into.ensures (sym c.bad_boards.ensures ∙ c.if-bad_boards.true)

pub returns-then-bad_lists : goal.returns-then-bad_lists
returns-then-bad_lists c =
    tested_13 _ _ _ _ (sym c.bad_boards.ensures ∙ c.if-bad_boards.false) _ c.into-then-bad_lists.ensures
    (sym c.bad_lists.ensures ∙ c.if-bad_lists.true)

pub returns-then-table-work : goal.returns-then-table-work
returns-then-table-work c =
    tested_10 _ _ _ _ (sym c.bad_boards.ensures ∙ c.if-bad_boards.false) (sym c.bad_lists.ensures ∙ c.if-bad_lists.false)
    _ c.into-then-table-work.ensures c.if-table-work.true

pub overflow_cast-result : goal.overflow_cast-result
overflow_cast-result c =
    out_fits c.args.boards c.args.work.now c.args.due.now c.args.table.now
    (sym c.bad_boards.ensures ∙ c.if-bad_boards.false) (sym c.bad_lists.ensures ∙ c.if-bad_lists.false)
    c.if-table-work.false _ c.in-Some.ensures

pub returns-in-None : goal.returns-in-None
returns-in-None c =
    tested_good _ _ _ _ (sym c.bad_boards.ensures ∙ c.if-bad_boards.false) (sym c.bad_lists.ensures ∙ c.if-bad_lists.false)
    c.if-table-work.false c.in-None.ensures

pub returns-in-Some : goal.returns-in-Some
returns-in-Some c =
    tested_14 _ _ _ _ (sym c.bad_boards.ensures ∙ c.if-bad_boards.false) (sym c.bad_lists.ensures ∙ c.if-bad_lists.false)
    c.if-table-work.false _ c.in-Some.ensures
