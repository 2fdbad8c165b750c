-- An order that is refused has its refusal's line; the jobs that were read stand at the front of the lists.
use Rattle.std.proofs.Common.{arith, sym, length-take-le}
use Rattle.std.proofs.lemmas.Result.{err_from_is_err_and}
use Rattle.listing.specs.Listed.{jobs_said, file_refused, file_read}
use Rattle.listing.proofs.list_order.Goals as goal

pub returns-in_err-order : goal.returns-in_err-order
returns-in_err-order c =
    let p = err_from_is_err_and c.from_residual.result c.from_residual.ensures.1 in
    rw (p.1, p.2) (file_refused c.args.file.now _ _ c.args.lines.now _ (omega arith) (omega arith) c.in_err-order.ensures.said)

pub slice_bounds-work-end : goal.slice_bounds-work-end
slice_bounds-work-end c = jobs_said c.args.file.now _ _ c.in_ok-order.order c.read.new.work c.in_ok-order.ensures.said c.read.ensures.works

pub slice_bounds-due-end : goal.slice_bounds-due-end
slice_bounds-due-end c =
    omega (
      arith,
      jobs_said c.args.file.now _ _ c.in_ok-order.order c.read.new.work c.in_ok-order.ensures.said c.read.ensures.works,
      c.read.auto.work,
      c.read.auto.due,
    )

pub slice_bounds-list_day-end : goal.slice_bounds-list_day-end
slice_bounds-list_day-end c =
    sym (length-take-le c.in_ok-order.order.jobs c.read.new.work
    (jobs_said c.args.file.now _ _ c.in_ok-order.order c.read.new.work c.in_ok-order.ensures.said c.read.ensures.works))

pub slice_bounds-list_day-end-2 : goal.slice_bounds-list_day-end-2
slice_bounds-list_day-end-2 c =
    sym (length-take-le c.in_ok-order.order.jobs c.read.new.due (omega (
      arith,
      jobs_said c.args.file.now _ _ c.in_ok-order.order c.read.new.work c.in_ok-order.ensures.said c.read.ensures.works,
      c.read.auto.work,
      c.read.auto.due,
    )))

pub returns : goal.returns
returns c =
    file_read c.args.file.now _ _ c.args.lines.now c.list_day.new.lines c.in_ok-order.order c.read.new.work c.read.new.due
    c.list_day.result (omega arith) (omega arith) c.in_ok-order.ensures.said c.read.ensures.works c.read.ensures.dues c.list_day.ensures
