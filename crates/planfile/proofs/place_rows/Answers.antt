-- Each way out cites the law of the test that led there.
use Rattle.std.proofs.Common.{arith, sym}
use Rattle.rules.specs.PlanFiles.{trailer_offset, trailer_count}
use Rattle.planfile.specs.Parts.{part_long, part_unfit, unfit_short, unfit_count, unfit_sum, placed}
use Rattle.planfile.proofs.place_rows.Goals as goal
use Rattle.planfile.proofs.place_rows.Goals.{then-rows-gt-MOST_ROWS-via-then-rows-gt-MOST_ROWS, then-rows-gt-MOST_ROWS-via-else-rows-gt-MOST_ROWS+then-offset-rows}

pub returns-then-length-gt65536-clause-said : goal.returns-then-length-gt65536-clause-said
returns-then-length-gt65536-clause-said c = sym (part_long c.args.file.now c.if-length-gt65536.true)

pub returns-then-length-lt8-clause-said : goal.returns-then-length-lt8-clause-said
returns-then-length-lt8-clause-said c = sym (part_unfit c.args.file.now c.if-length-gt65536.false (unfit_short _ c.if-length-lt8.true))

pub returns-then-rows-gt-MOST_ROWS-clause-said : goal.returns-then-rows-gt-MOST_ROWS-clause-said
unfolding trailer_offset trailer_count
returns-then-rows-gt-MOST_ROWS-clause-said c =
    sym (part_unfit c.args.file.now c.if-length-gt65536.false
    (elim c.then-rows-gt-MOST_ROWS.branch [
      | then-rows-gt-MOST_ROWS-via-then-rows-gt-MOST_ROWS w ↦ unfit_count _ c.load-rows.result c.load-rows.ensures (omega arith)
      | then-rows-gt-MOST_ROWS-via-else-rows-gt-MOST_ROWS+then-offset-rows w ↦ unfit_sum _ _ _ c.load-offset.ensures c.load-rows.ensures w.if-offset-rows.true
    ]))

pub returns-clause-said : goal.returns-clause-said
unfolding trailer_offset trailer_count
returns-clause-said c =
    placed c.args.file.now _ _ c.load-offset.ensures c.load-rows.ensures c.if-length-gt65536.false c.if-length-lt8.false c.if-rows-gt-MOST_ROWS.false c.if-offset-rows.false
