-- The invariant: the cursor holds a reading from which the tokens from the place on give the file's outcome. A step that goes on
-- moves the place forward, and the bytes left are the measure.
use Rattle.std.proofs.Common.{length, ◌-◌}
use Rattle.grammar.specs.Turns.{LentAll}
use Rattle.reader.specs.Ways.{Ready}
use Rattle.reader.proofs.InTurnWay.order.Given as goal

abbrev pub invariant-loop-order : goal.invariant-loop-order
invariant-loop-order l = record { ready : Ready l.cursor; lent : LentAll l.initial.cursor l.cursor }

abbrev pub decreases-loop-order : goal.decreases-loop-order
decreases-loop-order l = length l.cursor.file.now - l.cursor.at
