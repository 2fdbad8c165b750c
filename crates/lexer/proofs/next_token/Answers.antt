-- The blanks skipped change no token; behind them each return cites the law of the byte that stands there.
use Rattle.std.proofs.Common.{ap, arith, sym, true≢false, ◌∙◌, ◌∷◌}
use Rattle.lexer.specs.Laws.{blanks_skipped, atom_read, seen, tokens_end, tokens_open, tokens_close, tokens_foreign}
use Rattle.lexer.specs.Scan.{tokens_at, behind, is_last, placed, AtomRead, BlanksSkipped}
use Rattle.rules.specs.declared.Token.TheVariants.{Atom, Open, Close, End, Foreign}
use Rattle.rules.specs.declared.Word.{Word}
use Rattle.lexer.proofs.next_token.Goals as goal

pub returns-then-s-place : goal.returns-then-s-place
unfolding behind is_last
returns-then-s-place c =
    let b : BlanksSkipped c.args.s.now c.args.at c.run_end-place.result = blanks_skipped _ (λ b t h. h) _ _ _ c.run_end-place.ensures in
    seen _ _ _ b End _ (tokens_end _ _ c.if-s-place.true) (λ h. absurd (true≢false h)) (λ h. h)

pub returns-in-40 : goal.returns-in-40
unfolding behind is_last
returns-in-40 c =
    let b : BlanksSkipped c.args.s.now c.args.at c.run_end-place.result = blanks_skipped _ (λ b t h. h) _ _ _ c.run_end-place.ensures in
    seen _ _ _ b Open _ (tokens_open _ _ (omega arith) (b.no_blank (omega arith)) c.in-40.is) (λ h. omega arith) (λ h. omega arith)

pub returns-in-41 : goal.returns-in-41
unfolding behind is_last
returns-in-41 c =
    let b : BlanksSkipped c.args.s.now c.args.at c.run_end-place.result = blanks_skipped _ (λ b t h. h) _ _ _ c.run_end-place.ensures in
    seen _ _ _ b Close _ (tokens_close _ _ (omega arith) (b.no_blank (omega arith)) c.in-41.is) (λ h. omega arith) (λ h. omega arith)

pub returns-in_default : goal.returns-in_default
unfolding behind is_last
returns-in_default c =
    let b : BlanksSkipped c.args.s.now c.args.at c.run_end-place.result = blanks_skipped _ (λ b t h. h) _ _ _ c.run_end-place.ensures in
    let a : AtomRead c.args.s.now c.run_end-place.result c.run_end-end.result = atom_read _ (λ b t h. h) _ _ _ (omega arith) (sym c.is_letter_or_digit.ensures ∙ c.if-is_letter_or_digit.true) c.run_end-end.ensures in
    seen _ _ _ b (Atom c.kind_of.result) _ (a.tells ∙ ap (λ (w : Word). placed (Atom w) c.run_end-place.result ∷ tokens_at c.args.s.now c.run_end-end.result) (sym c.kind_of.ensures)) (λ h. a.onward) (λ h. a.inside)

pub returns-in_default-2 : goal.returns-in_default-2
unfolding behind is_last
returns-in_default-2 c =
    let b : BlanksSkipped c.args.s.now c.args.at c.run_end-place.result = blanks_skipped _ (λ b t h. h) _ _ _ c.run_end-place.ensures in
    seen _ _ _ b Foreign _ (tokens_foreign _ _ (omega arith) (b.no_blank (omega arith)) (sym c.is_letter_or_digit.ensures ∙ c.if-is_letter_or_digit.false) (λ q. absurd (omega arith)) (λ q. absurd (omega arith))) (λ h. absurd (true≢false h)) (λ h. h)
