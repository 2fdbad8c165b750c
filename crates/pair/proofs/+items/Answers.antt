-- An item that is no group is a job, whose three tokens leave no choice.
use Rattle.pair.specs.Laws.{goes_on, is_job, not_finish_word}
use Rattle.pair.proofs.+items.Goals as goal

pub item-three-requires : goal.item-three-requires
item-three-requires t c =
    let s = c.args.cursor.now in
    let on = goes_on s c.in_ok-step.field-0 c.step.new.cursor (not_finish_word s.state.wanted c.requires.1) c.in_ok-step.ensures.steps in
    (on.ready, (is_job s.state.wanted c.step.new.cursor.state.wanted s.state.level c.step.new.cursor.state.level c.requires.1 c.in_default.not-GroupDue on.there).0)
