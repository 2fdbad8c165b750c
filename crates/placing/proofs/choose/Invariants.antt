-- The choice among the boards from `board` on, against the best so far, is the whole choice.
use Rattle.std.proofs.Common.{◌≡◌}
use Rattle.rules.specs.Planning.{rooms, scan, none}
use Rattle.placing.specs.Scans.{scan_rest}
use Rattle.placing.proofs.choose.Given as goal

abbrev pub invariant-loop-board : goal.invariant-loop-board
invariant-loop-board g l =
    let beats = g.C.Choice.beats l.choice in
    scan_rest beats l.due l.free l.board l.best ≡ scan beats 0 none (rooms l.due l.free)
