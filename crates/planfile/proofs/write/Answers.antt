-- Each way out cites the law of the answer there.
use Rattle.std.proofs.Common.{ap, arith, sym, ◌∙◌, Err}
use Rattle.refusals.specs.declared.Fault.{Fault}
use Rattle.rules.specs.declared.Refusal.TheVariants.{LongFile}
use Rattle.rules.specs.PlanFiles.{WriteAnswer}
use Rattle.planfile.specs.Writes.{write_said, Refuses, short_table, long_count, long_file, wide_row, short_buffer, accepted, written_whole}
use Rattle.planfile.proofs.write.Goals as goal
use Rattle.planfile.proofs.write.Goals.{then-count-gt2000-via-then-count-gt2000, then-count-gt2000-via-else-count-gt2000+then-count-note}

pub returns-then-table-count : goal.returns-then-table-count
returns-then-table-count c =
    let w = short_table c.args.table.now c.args.count c.args.buffer.now c.args.note c.if-table-count.true in
    record { said = ap (λ (f : Fault). write_said (Err f)) c.into.ensures ∙ w.said; later = w.later }

pub returns-then-count-gt2000 : goal.returns-then-count-gt2000
returns-then-count-gt2000 c =
    let w : Refuses c.args.table.now c.args.count c.args.buffer.now c.args.note LongFile 0 = elim c.then-count-gt2000.branch [
      | then-count-gt2000-via-then-count-gt2000 w ↦ long_count c.args.table.now c.args.count c.args.buffer.now c.args.note c.if-table-count.false w.if-count-gt2000.true
      | then-count-gt2000-via-else-count-gt2000+then-count-note w ↦ long_file c.args.table.now c.args.count c.args.buffer.now c.args.note c.if-table-count.false w.if-count-gt2000.false w.if-count-note.true
    ] in
    record { said = ap (λ (f : Fault). write_said (Err f)) c.into-then-count-gt2000.ensures ∙ w.said; later = w.later }

pub returns-in-Some : goal.returns-in-Some
returns-in-Some c =
    let w = wide_row c.args.table.now c.args.count c.args.buffer.now c.args.note c.if-table-count.false c.if-count-gt2000.false c.if-count-note.false c.first_wide.result c.in-Some.i c.first_wide.ensures.first c.in-Some.is in
    record { said = w.said; later = w.later }

pub returns-then-buffer-length : goal.returns-then-buffer-length
returns-then-buffer-length c =
    let w = short_buffer c.args.table.now c.args.count c.args.buffer.now c.args.note c.if-table-count.false c.if-count-gt2000.false c.if-count-note.false c.first_wide.result c.first_wide.ensures.first c.in_default.is (omega arith) in
    record { said = ap (λ (f : Fault). write_said (Err f)) c.into-then-buffer-length.ensures ∙ w.said; later = w.later }

pub returns : goal.returns
returns c =
    let w = accepted c.args.table.now c.args.count c.args.buffer.now c.args.note c.if-table-count.false c.if-count-gt2000.false c.if-count-note.false c.first_wide.result c.first_wide.ensures.first c.in_default.is c.if-buffer-length.false in
    record {
      said = sym (ap (λ (a : WriteAnswer). a.said) w);
      later =
          written_whole c.args.buffer.now c.fill.new.b c.args.table.now c.args.note c.args.count c.if-table-count.false c.if-buffer-length.false c.fill.ensures
          ∙ sym (ap (λ (a : WriteAnswer). a.buffer) w);
    }
