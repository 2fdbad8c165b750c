-- The power rises tenfold a turn while the number still has a digit before it.
use Rattle.std.proofs.Common.{◌/◌}
use Rattle.lines.specs.Digits.{Rising}
use Rattle.lines.proofs.lead.Given as goal

abbrev pub invariant-loop-power : goal.invariant-loop-power
invariant-loop-power l = Rising l.n l.power

abbrev pub decreases-loop-power : goal.decreases-loop-power
decreases-loop-power l = l.n / l.power
