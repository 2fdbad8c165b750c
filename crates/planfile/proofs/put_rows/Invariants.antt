-- Putting the rows that are left behind those that are there is putting them all.
use Rattle.std.proofs.Common.{◌≡◌, ◌+◌, ◌*◌, ◌/◌, ◌≤◌, length}
use Rattle.laws.specs.Stores.{stored}
use Rattle.rules.specs.PlanFiles.{rows_bytes}
use Rattle.tablerows.specs.Chunks.{rows_in}
use Rattle.planfile.proofs.put_rows.Given as goal

abbrev pub invariant-loop-i : goal.invariant-loop-i
invariant-loop-i l = record {
  four : l.i-iterator.iter.size ≡ 4;
  room : 12 * l.i-iterator.count + 12 * (length l.i-iterator.iter.rest.now / 4) ≤ length l.b;
  rest : stored l.b (12 * l.i-iterator.count) (rows_bytes (rows_in l.i-iterator.iter.rest.now)) ≡ stored l.initial.b 0 (rows_bytes (rows_in l.rows));
}
