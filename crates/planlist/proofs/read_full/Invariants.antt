-- What was read stands in the buffer, and each read that ends neither the input nor the loop brings a byte.
use Rattle.std.proofs.Common.{length, ◌-◌, ◌≤◌}
use Rattle.planlist.proofs.read_full.Given as goal

abbrev pub invariant-loop-n : goal.invariant-loop-n
invariant-loop-n l = l.done ≤ length l.buffer

abbrev pub decreases-loop-n : goal.decreases-loop-n
decreases-loop-n l = length l.initial.buffer - l.done
