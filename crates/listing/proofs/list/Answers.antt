-- A buffer that is too short stays; else the lines were put, or the line of the refusal is put now.
use Rattle.std.proofs.Common.{arith, rules, ◌∙◌}
use Rattle.listing.specs.Listed.{short_left, listed, listed_fault, put_within}
use Rattle.listing.proofs.list.Goals as goal

pub returns-then-lines-lt90000 : goal.returns-then-lines-lt90000
returns-then-lines-lt90000 c =
    let w = short_left c.args.file.now c.args.lines.now c.if-lines-lt90000.true in
    record { said = w.0; later = w.1; within = omega arith }

pub returns-in-Ok : goal.returns-in-Ok
returns-in-Ok c =
    let w = listed c.args.file.now c.args.lines.now c.list_order.new.lines c.in-Ok.end c.if-lines-lt90000.false c.in-Ok.ensures in
    record { said = w.0; later = w.1; within = put_within c.args.lines.now _ _ c.in-Ok.end c.list_order.auto.lines c.in-Ok.ensures }

pub returns-in-Err : goal.returns-in-Err
returns-in-Err c =
    let w = listed_fault c.args.file.now c.args.lines.now c.list_order.new.lines c.put_refusal.new.b c.in-Err.fault _ _
    c.put_refusal.result c.if-lines-lt90000.false c.in-Err.ensures (search (rules, ◌∙◌)) (search (rules, ◌∙◌)) c.put_refusal.ensures in
    record {
      said = w.0;
      later = w.1;
      within = omega (arith, put_within c.list_order.new.lines _ _ c.put_refusal.result c.put_refusal.auto.b c.put_refusal.ensures, c.list_order.auto.lines);
    }
