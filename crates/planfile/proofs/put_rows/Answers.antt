-- Each turn puts one row of those that are left.
use Rattle.std.proofs.Common.{◌≡◌, ℕ, ◌*◌, length, ap, ap₂, sym, ◌∙◌, arith, length-append}
use Rattle.laws.specs.Stores.{stored}
use Rattle.rules.specs.PlanFiles.{row_bytes, rows_bytes}
use Rattle.rules.specs.Plans.{Row, first_row}
use Rattle.tablerows.specs.Chunks.{rows_in}
use Rattle.planfile.specs.Writes.{rows_more, rows_end}
use Rattle.planfile.proofs.put_rows.Goals as goal

pub loop-i-preserved : goal.loop-i-preserved
loop-i-preserved c =
    let s = c.in-Some.ensures.steps in
    let it = c.loop-i.i-iterator in
    let row = c.in-Some.row.now in
    let later = c.next.new.self.iter.rest.now in
    let four : length row ≡ 4 = s.0.1.1 ∙ c.loop-i.invariant.four in
    let put : c.put_row.new.b ≡ stored c.loop-i.b (12 * it.count) (row_bytes (first_row row)) = c.put_row.ensures ∙ ap₂ (λ (n : ℕ) (r : Row). stored c.loop-i.b (12 * n) (row_bytes r)) s.1 c.row_in.ensures in
    record {
      four = s.0.0 ∙ c.loop-i.invariant.four;
      room = omega (arith, ap length s.0.1.0, length-append row later);
      rest =
          ap (λ (n : ℕ). stored c.put_row.new.b (12 * n) (rows_bytes (rows_in later))) s.2
          ∙ rows_more c.loop-i.b c.put_row.new.b row it.iter.rest.now later it.count four s.0.1.0 c.loop-i.invariant.room put
          ∙ c.loop-i.invariant.rest;
    }

pub returns : goal.returns
returns c =
    let s = c.in-None.ensures.steps in
    sym (rows_end c.loop-i.b c.loop-i.i-iterator.iter.rest.now c.loop-i.i-iterator.count (omega (arith, s.0.1.0))) ∙ c.loop-i.invariant.rest
