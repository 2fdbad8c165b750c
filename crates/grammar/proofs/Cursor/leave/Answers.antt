-- The level is the number of groups, so the test tells the order's bracket from a group's.
use Rattle.grammar.specs.Laws.{holds_left_order, holds_left_group}
use Rattle.grammar.specs.Turns.{acted}
use Rattle.grammar.proofs.Cursor.leave.Goals as goal

pub returns-then-self-eq0-clause-changes : goal.returns-then-self-eq0-clause-changes
unfolding acted
returns-then-self-eq0-clause-changes c = λ r work due least h. holds_left_order _ _ _ _ _ _ _ _ h r.groups h.as_level c.if-self-eq0.true

pub returns-clause-changes : goal.returns-clause-changes
unfolding acted
returns-clause-changes c = λ r work due least h. holds_left_group _ _ _ _ _ _ _ _ h r.groups h.as_level h.held c.if-self-eq0.false
