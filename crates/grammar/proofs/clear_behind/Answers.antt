-- Clearing from the job count on leaves the lists and zeros, clearing from 0 zeros alone. What each list ends as is said of
-- it alone, so that a slip in one clearing is refused for what it leaves.
use Rattle.std.proofs.Common.{Result, ◌≡◌, refl, ◌++◌, ◌-◌, length, take, arith, subst}
use Rattle.rules.specs.Basics.{zeros}
use Rattle.refusals.specs.declared.Fault.{Fault}
use Rattle.grammar.specs.declared.Order.{Order}
use Rattle.grammar.specs.Ends.{answers_refused, answers_accepted}
use Rattle.grammar.specs.Turns.{Writable}
use Rattle.grammar.proofs.clear_behind.Goals as goal
use Rattle.grammar.proofs.clear_behind.Goals.{in-Ok, in-Err}

pub returns : goal.returns
returns c =
    elim c.match-ended.branch [
      | in-Ok w ↦
          let q = subst (λ (e : Result Order Fault). Writable e c.args.work.now c.args.due.now) w.in-Ok.is c.requires in
          let jobs = w.in-Ok.order.jobs in
          let works : c.clear_from.new.list ≡ take jobs c.args.work.now ++ zeros (length c.args.work.now - jobs) = grind arith in
          let dues : c.clear_from-2.new.list ≡ take jobs c.args.due.now ++ zeros (length c.args.due.now - jobs) = grind arith in
          answers_accepted _ jobs _ _ _ _ works dues w.in-Ok.order w.in-Ok.is refl q.0 q.1
      | in-Err w ↦
          let works : c.clear_from.new.list ≡ take 0 c.args.work.now ++ zeros (length c.args.work.now - 0) = grind arith in
          let dues : c.clear_from-2.new.list ≡ take 0 c.args.due.now ++ zeros (length c.args.due.now - 0) = grind arith in
          answers_refused _ 0 _ _ _ _ works dues w.in-Err.field-0 w.in-Err.is refl
    ]
