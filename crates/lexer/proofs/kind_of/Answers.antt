-- The tests come in the definition's order, so each return cites the law of its case.
use Rattle.std.proofs.Common.{sym, ◌∙◌}
use Rattle.lexer.specs.Laws.{kind_order, kind_group, kind_job, kind_rest}
use Rattle.lexer.proofs.kind_of.Goals as goal

pub returns-then-same_bytes : goal.returns-then-same_bytes
returns-then-same_bytes c = sym (kind_order c.args.w.now (sym c.same_bytes.ensures ∙ c.if-same_bytes.true))

pub returns-then-same_bytes-2 : goal.returns-then-same_bytes-2
returns-then-same_bytes-2 c =
    sym (kind_group c.args.w.now (sym c.same_bytes.ensures ∙ c.if-same_bytes.false)
    (sym c.same_bytes-else-same_bytes.ensures ∙ c.if-same_bytes-2.true))

pub returns-then-same_bytes-3 : goal.returns-then-same_bytes-3
returns-then-same_bytes-3 c =
    sym (kind_job c.args.w.now (sym c.same_bytes.ensures ∙ c.if-same_bytes.false)
    (sym c.same_bytes-else-same_bytes.ensures ∙ c.if-same_bytes-2.false)
    (sym c.same_bytes-else-same_bytes-2.ensures ∙ c.if-same_bytes-3.true))

pub returns-else-same_bytes-3 : goal.returns-else-same_bytes-3
returns-else-same_bytes-3 c =
    c.number_or_other.ensures
    ∙ sym (kind_rest c.args.w.now (sym c.same_bytes.ensures ∙ c.if-same_bytes.false)
    (sym c.same_bytes-else-same_bytes.ensures ∙ c.if-same_bytes-2.false)
    (sym c.same_bytes-else-same_bytes-2.ensures ∙ c.if-same_bytes-3.false))
