-- A byte that does not meet the test ends the run.
use Rattle.std.proofs.Common.{arith}
use Rattle.lexer.proofs.run_end.Goals as goal

pub returns-then-not-test : goal.returns-then-not-test
returns-then-not-test g c = record {
  onward = omega arith;
  inside = omega arith;
  met = c.loop-i.invariant;
  ended = λ h. c.if-not-test.ensures;
}
