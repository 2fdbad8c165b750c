-- The value from here on, begun at n, is the value from the start; n has as many digits as were read, so no sum is too large;
-- what is left are digits alone where all are.
use Rattle.std.proofs.Common.{drop, ◌<◌, ◌^◌, ◌≡◌}
use Rattle.rules.specs.Basics.{every}
use Rattle.rules.specs.Tokens.{is_digit, value_from}
use Rattle.lexer.proofs.number_or_other.Given as goal

abbrev pub invariant-loop-b : goal.invariant-loop-b
invariant-loop-b l = (l.n < 10 ^ l.b-index) × (value_from l.n (drop l.b-index l.w) ≡ value_from 0 l.w) × (every is_digit (drop l.b-index l.w) ≡ every is_digit l.w)
