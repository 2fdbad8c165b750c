-- The tests come in the definition's order; behind them the outcome of the reading is the answer, and of the buffers only the
-- lengths count.
use Rattle.std.proofs.Common.{Err, arith, subst, sym}
use Rattle.rules.specs.declared.Refusal.TheVariants.{ShortBuffer, LongFile}
use Rattle.refusals.specs.declared.Fault.{Fault}
use Rattle.grammar.specs.Turns.{Answers}
use Rattle.grammar.specs.Ends.{short_buffer, long_file, read_answers, refusal_answers, finished_fits, finished_on}
use Rattle.rules.specs.Orders.{read_answer}
use Rattle.reader.proofs.read_by.Goals as goal

pub returns-then-room-lt1000 : goal.returns-then-room-lt1000
returns-then-room-lt1000 g c =
    let a = refusal_answers c.args.file.now c.args.work.now c.args.due.now ShortBuffer (short_buffer _ _ _ (omega (arith, c.min-room.ensures))) in
    let b = subst (λ (f : Fault). Answers (read_answer c.args.file.now c.args.work.now c.args.due.now) (Err f) c.args.work.now c.args.due.now) (sym c.from.ensures) a in
    record { said = b.said; works = b.works; dues = b.dues; finished = λ f. absurd (omega (arith, f.long_work, f.long_due, c.min-room.ensures)) }

pub returns-then-file-gt65536 : goal.returns-then-file-gt65536
returns-then-file-gt65536 g c =
    let a = refusal_answers c.args.file.now c.args.work.now c.args.due.now LongFile (long_file _ _ _ (omega (arith, c.min-room.ensures)) (omega (arith, c.min-room.ensures)) c.if-file-gt65536.true) in
    let b = subst (λ (f : Fault). Answers (read_answer c.args.file.now c.args.work.now c.args.due.now) (Err f) c.args.work.now c.args.due.now) (sym c.from-then-file-gt65536.ensures) a in
    record { said = b.said; works = b.works; dues = b.dues; finished = λ f. absurd (omega (arith, f.short_file, c.if-file-gt65536.true)) }

pub returns : goal.returns
returns g c =
    let a = read_answers c.args.file.now c.args.work.now c.args.due.now (omega (arith, c.min-room.ensures)) (omega (arith, c.min-room.ensures)) c.order-ended.result c.order-ended.new.work c.order-ended.new.due c.clear_behind.new.work c.clear_behind.new.due c.if-file-gt65536.false c.order-ended.auto.work c.order-ended.auto.due c.order-ended.ensures c.clear_behind.ensures in
    let w = finished_fits c.args.file.now c.order-ended.result c.order-ended.new.work c.order-ended.new.due (omega (arith, c.min-room.ensures, c.order-ended.auto.work)) (omega (arith, c.min-room.ensures, c.order-ended.auto.due)) c.order-ended.ensures in
    record {
      said = a.said;
      works = a.works;
      dues = a.dues;
      finished = λ f. finished_on c.args.file.now c.order-ended.result c.order-ended.new.work c.order-ended.new.due c.clear_behind.new.work c.clear_behind.new.due w c.order-ended.ensures c.clear_behind.ensures;
    }
