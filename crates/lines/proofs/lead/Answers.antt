-- The power rises tenfold a turn while the number still has a digit before it, so it is never 0.
use Rattle.lines.specs.Digits.{rising_pos, rising_more}
use Rattle.lines.proofs.lead.Goals as goal

pub nonzero_div-n : goal.nonzero_div-n
nonzero_div-n c = rising_pos _ _ c.loop-power.invariant

pub loop-power-preserved : goal.loop-power-preserved
loop-power-preserved c = rising_more _ _ c.ranges.n.fits c.loop-power.invariant c.loop-power-test.true
