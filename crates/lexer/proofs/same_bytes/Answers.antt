-- Words of one length are gone through pair by pair.
use Rattle.std.proofs.Common.{eqb, ℕ, rules, tests, sym, ne_eqb, ◌∙◌}
use Rattle.std.proofs.lemmas.Iterator.{YieldsList-from_slice, YieldsList-from_zip}
use Rattle.std.proofs.lemmas.Iterator.Search.{all_from_yields_List}
use Rattle.lexer.specs.Laws.{same_no_length, all_same}
use Rattle.lexer.proofs.same_bytes.Goals as goal

pub returns-then-w-word : goal.returns-then-w-word
returns-then-w-word c =
    all_from_yields_List (λ (p : ℕ × ℕ). eqb p.0 p.1) c.all.new.self _ _ c.all.ensures.ran
    (YieldsList-from_zip (YieldsList-from_slice c.args.w.now cc) (YieldsList-from_slice c.args.word.now cc)) (λ x b q k. search (rules, tests))
    ∙ all_same _ _ c.if-w-word.true

pub returns-else-w-word : goal.returns-else-w-word
returns-else-w-word c = ne_eqb _ _ c.if-w-word.false ∙ sym (same_no_length _ _ c.if-w-word.false)
