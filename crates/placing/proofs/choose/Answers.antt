-- Each turn of the loop is one of the scan: its room is chosen, or the best stays.
use Rattle.std.proofs.Common.{sym, ◌∙◌}
use Rattle.rules.specs.Planning.{none}
use Rattle.placing.specs.Scans.{rest_start, rest_end, rest_yes, rest_no}
use Rattle.placing.proofs.choose.Goals as goal
use Rattle.placing.proofs.choose.Goals.{then-beats, else-beats}

pub loop-board-init : goal.loop-board-init
unfolding none
loop-board-init g c = rest_start _ _ _ _

pub loop-board-preserved : goal.loop-board-preserved
loop-board-preserved g c =
    elim c.if-beats.branch [
      | then-beats w ↦ rw w.best-is (rest_yes _ _ _ _ _ _ c.room-here.ensures c.loop-board-test.true
          (sym c.beats.ensures ∙ w.if-beats.true) ∙ c.loop-board.invariant)
      | else-beats w ↦ rw w.best-is (rest_no _ _ _ _ _ _ c.room-here.ensures c.loop-board-test.true
          (sym c.beats.ensures ∙ w.if-beats.false) ∙ c.loop-board.invariant)
    ]

pub returns : goal.returns
returns g c = rest_end _ _ _ _ _ c.loop-board-test.false ∙ c.loop-board.invariant
