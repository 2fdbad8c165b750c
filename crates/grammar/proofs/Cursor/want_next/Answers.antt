-- The law of what is held where another thing is wanted.
use Rattle.grammar.specs.Laws.{holds_want}
use Rattle.grammar.proofs.Cursor.want_next.Goals as goal

pub returns-clause-changes : goal.returns-clause-changes
returns-clause-changes c = λ r work due least h. holds_want _ _ _ _ _ _ _ _ h c.args.wanted
