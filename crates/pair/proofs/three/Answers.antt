-- A token that goes on leaves one token fewer to go, and three turns have three tokens behind them.
use Rattle.std.proofs.Common.{◌≡◌, ◌≤◌, ◌-◌, ◌∙◌, arith}
use Rattle.grammar.specs.Steps.{lent_all_on}
use Rattle.pair.specs.Laws.{goes_on, not_finish, togo_less, togo_none}
use Rattle.pair.specs.Moves.{togo}
use Rattle.pair.proofs.three.Goals as goal

pub loop-preserved : goal.loop-preserved
loop-preserved c =
    let i = c.loop.invariant in
    let left : togo c.loop.cursor.state.wanted ≡ 3 - c.loop.counter = omega (arith, i.to_go) in
    let few : 3 - c.loop.counter ≤ 3 = omega arith in
    let on = goes_on c.loop.cursor c.in_ok-step.field-0 c.step.new.cursor (not_finish _ _ left few) c.in_ok-step.ensures.steps in
    let m = togo_less c.loop.cursor c.step.new.cursor (3 - c.loop.counter) left (omega (arith, c.loop-test.true)) few on.there in
    record {
      ready = on.ready;
      lent = lent_all_on _ _ _ i.lent c.step.ensures.lent;
      to_go = omega (arith, m.0, c.loop-test.true);
      same_level = m.1 ∙ i.same_level;
      onward = omega (arith, on.later, i.onward);
    }

pub returns : goal.returns
returns c =
    let i = c.loop.invariant in
    let none : togo c.loop.cursor.state.wanted ≡ 0 = omega (arith, i.to_go, c.loop-test.false) in
    record {
      lent = i.lent;
      to = record { ready = i.ready; later = omega (arith, i.onward, c.loop-test.false); there = (togo_none c.loop.cursor.state.wanted none, i.same_level) };
    }
