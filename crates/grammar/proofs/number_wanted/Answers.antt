-- A number is taken up to its limit.
use Rattle.std.proofs.Common.{le-leb, sym, ◌∙◌}
use Rattle.std.proofs.lemmas.Bool.{lt-leb}
use Rattle.grammar.specs.Laws.{number_atom}
use Rattle.grammar.specs.Turns.{meant, turned}
use Rattle.laws.specs.Tests.{pick_yes, pick_no}
use Rattle.grammar.proofs.number_wanted.Goals as goal

pub returns-then-limit-n : goal.returns-then-limit-n
unfolding meant turned
returns-then-limit-n c =
    λ r. rw c.stop_at-then-limit-n.ensures (sym (number_atom c.args.limit c.args.token _ _ c.args.place _ c.in-Atom.is c.in-Number.is ∙ pick_no _ _ _ (lt-leb _ _ c.if-limit-n.true)))

pub returns : goal.returns
unfolding meant turned
returns c =
    λ r. sym (number_atom c.args.limit c.args.token _ _ c.args.place _ c.in-Atom.is c.in-Number.is ∙ pick_yes _ _ _ (le-leb _ _ c.if-limit-n.false))
