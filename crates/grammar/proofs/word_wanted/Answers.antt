-- An atom that is none of the three words is misplaced too.
use Rattle.std.proofs.Common.{ap, sym, ◌∙◌}
use Rattle.grammar.specs.Laws.{word_none}
use Rattle.grammar.specs.Turns.{meant}
use Rattle.rules.specs.Orders.{stop}
use Rattle.grammar.specs.declared.Stop.{Stop}
use Rattle.grammar.proofs.word_wanted.Goals as goal

pub returns-in_default-name : goal.returns-in_default-name
unfolding meant
returns-in_default-name c =
    λ r. ap (λ (q : Stop). stop q.refusal q.place) c.misplaced-in_default-name.ensures ∙ sym (word_none c.args.token _ c.args.place _ _ _ c.in-Atom.is c.in_default-name.not-Order c.in_default-name.not-Group c.in_default-name.not-Job)
