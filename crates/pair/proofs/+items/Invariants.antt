-- An item at so many levels left reads a group at one level less, and a group reads its items at the same levels: the measure is
-- the levels twice, and one more for the group.
-- The group's invariant: the next item or the closing bracket is wanted, at the group's own level.
use Rattle.std.proofs.Common.{◌≡◌, ◌+◌, ◌-◌, ◌≤◌, length}
use Rattle.rules.specs.declared.Wanted.TheVariants.{ItemOrClose}
use Rattle.grammar.specs.Turns.{LentAll}
use Rattle.reader.specs.Ways.{Ready}
use Rattle.pair.proofs.+items.Given as goal

abbrev pub decreases-group : goal.decreases-group
decreases-group l = l.levels + l.levels + 1

abbrev pub decreases-item : goal.decreases-item
decreases-item l = l.levels + l.levels

abbrev pub invariant-group-loop-cursor : goal.invariant-group-loop-cursor
invariant-group-loop-cursor l = record {
  ready : Ready l.cursor;
  lent : LentAll l.fn.cursor l.cursor;
  at_item : l.cursor.state.wanted ≡ ItemOrClose;
  same_level : l.cursor.state.level ≡ l.fn.cursor.state.level;
  onward : l.fn.cursor.at ≤ l.cursor.at;
}

abbrev pub decreases-group-loop-cursor : goal.decreases-group-loop-cursor
decreases-group-loop-cursor l = length l.cursor.file.now - l.cursor.at
