-- The jobs before and those that are left are all jobs, so that no count wraps; the answer of those that are left, counted
-- from where they stand, is the whole answer.
use Rattle.std.proofs.Common.{◌≡◌, ◌+◌, length}
use Rattle.rules.specs.Planning.{first_out, first_out_from}
use Rattle.dayrules.proofs.first_out.Given as goal

abbrev pub invariant-loop-w : goal.invariant-loop-w
invariant-loop-w l = record {
  passed : l.before + length l.w-iterator.a.rest.now ≡ length l.work;
  same : first_out_from (l.before + 1) l.w-iterator.a.rest.now l.w-iterator.b.rest.now ≡ first_out l.work l.due;
}
