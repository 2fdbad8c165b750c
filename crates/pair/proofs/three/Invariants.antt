-- The invariant: as many tokens without choice are to go as turns are left, at the level of the start.
use Rattle.std.proofs.Common.{◌+◌, ◌≡◌, ◌≤◌}
use Rattle.grammar.specs.Turns.{LentAll}
use Rattle.reader.specs.Ways.{Ready}
use Rattle.pair.specs.Moves.{togo}
use Rattle.pair.proofs.three.Given as goal

abbrev pub invariant-loop : goal.invariant-loop
invariant-loop l = record {
  ready : Ready l.cursor;
  lent : LentAll l.initial.cursor l.cursor;
  to_go : togo l.cursor.state.wanted + l.counter ≡ 3;
  same_level : l.cursor.state.level ≡ l.initial.cursor.state.level;
  onward : l.initial.cursor.at + l.counter ≤ l.cursor.at;
}
