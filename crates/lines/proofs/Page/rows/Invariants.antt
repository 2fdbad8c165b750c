-- The lines put and those of the rows that follow are together those of the table.
use Rattle.std.specs.Slice.Iter.{chunks_exact_rest, chunks_exact_size}
use Rattle.std.proofs.Common.{◌≡◌}
use Rattle.lines.specs.Fields.{RowsPut}
use Rattle.lines.proofs.Page.rows.Given as goal

abbrev pub invariant-loop-row : goal.invariant-loop-row
invariant-loop-row l =
    record {
      cut : chunks_exact_size l.row-iterator.iter ≡ 4;
      put : RowsPut l.initial.self l.self l.table l.count (chunks_exact_rest l.row-iterator.iter) l.row-iterator.n;
    }
