-- The lines put and those of the rows that follow are together those of the table.
use Rattle.std.proofs.Common.{arith, rules, ◌∙◌}
use Rattle.std.proofs.Math.Seq.{take-length}
use Rattle.lines.specs.Fields.{rows_none, rows_room, rows_more, turn_put, rows_done}
use Rattle.lines.proofs.Page.rows.Goals as goal

pub loop-row-init : goal.loop-row-init
loop-row-init c = record { cut = search rules; put = rows_none _ _ _ c.requires.within (search rules) (search rules) }

pub row-requires-clause-room : goal.row-requires-clause-room
row-requires-clause-room c = rows_room _ c.requires.room c.in-Some.ensures.steps.1 c.loop-row.invariant.put

pub loop-row-preserved : goal.loop-row-preserved
loop-row-preserved c =
    let step = c.in-Some.ensures.steps in
    record {
      cut = step.0.0 ∙ c.loop-row.invariant.cut;
      put = rows_more _ c.requires.room (step.0.1.1 ∙ c.loop-row.invariant.cut) step.0.1.0 step.1 c.loop-row.invariant.put (turn_put (search (rules, take-length)) c.row.ensures);
    }

pub returns : goal.returns
returns c = rows_done (λ h. let step = c.in-None.ensures.steps h in omega (arith, step.1.0, c.loop-row.invariant.cut)) c.loop-row.invariant.put
