-- Each way out says what was decided, and cites the law of what a turn of that kind leaves standing.
use Rattle.std.proofs.Common.{arith, Ok, ap, subst, sym, ◌∙◌}
use Rattle.grammar.specs.declared.Order.{Order}
use Rattle.grammar.specs.Turns.{Finished}
use Rattle.grammar.specs.declared.Cursor.{Cursor}
use Rattle.grammar.specs.declared.Turn.TheVariants.{Want, Take, Leave}
use Rattle.grammar.specs.Steps.{stands_bounded, changes_acts, stop_place, stands_stop, stands_done}
use Rattle.reader.specs.Laws.{step_on, whole_at}
use Rattle.reader.proofs.step.Goals as goal
use Rattle.reader.proofs.step.Goals.{in-Want, in-Take, in-Leave}

pub overflow_cast-result : goal.overflow_cast-result
overflow_cast-result c =
    omega (
      arith,
      stop_place c.args.cursor.now c.requires.stands _ c.next_token-seen.ensures _ c.decide.ensures c.in-Err.stop c.in-Err.is,
      (c.next_token-seen.ensures.inside c.requires.stands.inside).0,
      c.requires.short_file,
    )

pub returns-in-Err-clause-steps : goal.returns-in-Err-clause-steps
returns-in-Err-clause-steps c =
    stands_stop c.args.cursor.now c.requires.stands _ c.next_token-seen.ensures _ c.decide.ensures c.in-Err.stop c.args.cursor.now.work.now c.args.cursor.now.due.now c.in-Err.is

pub take_in-requires : goal.take_in-requires
take_in-requires c = stands_bounded c.args.cursor.now c.requires.stands

pub order-requires : goal.order-requires
order-requires c = stands_bounded c.args.cursor.now c.requires.stands

pub returns-in-Done-clause-steps : goal.returns-in-Done-clause-steps
returns-in-Done-clause-steps c =
    let s = c.args.cursor.now in
    let is = c.in-Ok.is ∙ ap Ok c.in-Done.is in (
      subst (λ (o : Order). Finished s.file.now (Ok o) s.work.now s.due.now) (sym c.order.ensures) (stands_done s c.requires.stands _ c.next_token-seen.ensures _ c.decide.ensures is),
      whole_at s c.requires _ c.next_token-seen.ensures _ c.decide.ensures is,
    )

pub returns-clause-steps : goal.returns-clause-steps
returns-clause-steps c =
    let on = step_on c.args.cursor.now c.requires _ c.next_token-seen.ensures _ c.decide.ensures in
    elim c.match-turn.branch [
      | in-Want w ↦
          on (Want w.in-Want.wanted) (c.in-Ok.is ∙ ap Ok w.in-Want.is) tt w.want_next.new.self _ (changes_acts _ _ _ w.want_next.ensures.changes w.want_next.ensures.stays) w.want_next.ensures.lent.lent (ap (λ (x : Cursor). record x { at = c.next_token-seen.result.next }) w.cursor-is)
      | in-Take w ↦
          on (Take w.in-Take.n) (c.in-Ok.is ∙ ap Ok w.in-Take.is) tt w.take_in.new.self _ w.take_in.ensures.acts w.take_in.ensures.lent.lent (ap (λ (x : Cursor). record x { at = c.next_token-seen.result.next }) w.cursor-is)
      | in-Leave w ↦
          on Leave (c.in-Ok.is ∙ ap Ok w.in-Leave.is) tt w.leave.new.self _ (changes_acts _ _ _ w.leave.ensures.changes w.leave.ensures.stays) w.leave.ensures.lent.lent (ap (λ (x : Cursor). record x { at = c.next_token-seen.result.next }) w.cursor-is)
    ]
