-- Each return cites the law of the test that led there.
use Rattle.std.proofs.Common.{ap, arith, sym, ◌∙◌, inl, inr, eqb-true, eq-eqb, true≢false}
use Rattle.laws.specs.Tests.{pick_yes, pick_no}
use Rattle.rules.specs.Tokens.{is_digit}
use Rattle.rules.specs.declared.Word.TheVariants.{Number}
use Rattle.lexer.specs.Laws.{number_empty, number_long, number_zero, number_digits, every_more, every_fails, every_end, value_end, value_step, value_fits, digit_is}
use Rattle.lexer.proofs.number_or_other.Goals as goal

pub returns-then-is_empty : goal.returns-then-is_empty
returns-then-is_empty c =
    elim c.then-is_empty.either [
      | inl e ↦ sym (pick_no _ _ _ (number_empty c.args.w.now (eqb-true _ _ (sym c.is_empty.ensures ∙ e))))
      | inr e ↦ sym (pick_no _ _ _ (number_long c.args.w.now e.1))
    ]

pub returns-then-w-eq48 : goal.returns-then-w-eq48
returns-then-w-eq48 c = sym (pick_no _ _ _ (number_zero c.args.w.now c.if-w-eq48.true))

pub returns-then-not-is_digit : goal.returns-then-not-is_digit
returns-then-not-is_digit c =
    sym (pick_no _ _ _ (number_digits c.args.w.now (λ h. true≢false (sym (eq-eqb _ _ h) ∙ sym c.if-is_empty.ensures)) c.if-w-gt-MOST_DIGITS.false c.if-w-eq48.false
    ∙ sym c.loop-b.invariant.2
    ∙ every_fails is_digit c.args.w.now c.loop-b.b-index (omega arith) (sym c.is_digit.ensures ∙ c.if-not-is_digit.true)))

pub overflow_sub-b : goal.overflow_sub-b
overflow_sub-b c = (digit_is _ (sym c.is_digit.ensures ∙ c.if-not-is_digit.false)).0

pub loop-b-preserved : goal.loop-b-preserved
loop-b-preserved c =
    let e = sym c.is_digit.ensures ∙ c.if-not-is_digit.false in
    let d = digit_is _ e in (
      (value_fits c.loop-b.b-index c.loop-b.n c.from.result (omega arith) c.loop-b.invariant.0 (omega (arith, c.from.ensures, d.0, d.1))).1,
      rw c.from.ensures (sym (value_step c.loop-b.n c.args.w.now c.loop-b.b-index (omega arith)) ∙ c.loop-b.invariant.1),
      sym (every_more is_digit c.args.w.now c.loop-b.b-index (omega arith) e) ∙ c.loop-b.invariant.2,
    )

pub returns : goal.returns
returns c =
    ap Number (sym (value_end c.loop-b.n c.args.w.now c.loop-b.b-index (omega arith)) ∙ c.loop-b.invariant.1)
    ∙ sym (pick_yes _ _ _ (number_digits c.args.w.now (λ h. true≢false (sym (eq-eqb _ _ h) ∙ sym c.if-is_empty.ensures)) c.if-w-gt-MOST_DIGITS.false c.if-w-eq48.false
    ∙ sym c.loop-b.invariant.2
    ∙ every_end is_digit c.args.w.now c.loop-b.b-index (omega arith)))
