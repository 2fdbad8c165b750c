-- Four numbers over the table's first four are one row.
use Rattle.std.proofs.Common.{refl, ap, ◌∙◌, List, ℕ, drop, ◌++◌}
use Rattle.rules.specs.Planning.{fill}
use Rattle.placing.specs.Writes.{row_stored}
use Rattle.placing.proofs.add_row.Goals as goal

pub returns : goal.returns
unfolding fill
returns c =
    let a = c.args in
    record {
      free_after = refl;
      table_after = ap (λ (l : List ℕ). l ++ drop 4 a.table.now) c.copy_from_slice.ensures.after
          ∙ row_stored a.table.now a.free.now a.number a.board a.minutes;
    }
