-- Each byte so far meets the test.
use Rattle.std.proofs.Common.{true, ℕ, ◌<◌, ◌≤◌, get_or}
use Rattle.lexer.proofs.run_end.Given as goal

abbrev pub invariant-loop-i : goal.invariant-loop-i
invariant-loop-i g l = (k : ℕ) → l.at ≤ k → k < l.i → goal.F-post g l.test (get_or l.s k 0) true
