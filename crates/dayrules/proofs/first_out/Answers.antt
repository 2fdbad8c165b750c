-- Each turn passes a good job, or stops at a bad one; the loop ends where one of the lists does.
use Rattle.std.proofs.Common.{refl, sym, ap, inl, inr, length, arith, ◌∙◌}
use Rattle.laws.specs.Found.{some_found, none_found}
use Rattle.dayrules.specs.FirstOut.{out_start, out_end, out_good, out_bad}
use Rattle.dayrules.proofs.first_out.Goals as goal

pub loop-w-init : goal.loop-w-init
loop-w-init c =
    rw (c.into_iter-w-iterator.ensures.into_iter_gives, c.zip-w-items.ensures.first, c.iter.ensures.rest, c.zip-w-items.ensures.second.0)
    record { passed = omega arith; same = out_start _ _ }

pub loop-w-preserved : goal.loop-w-preserved
loop-w-preserved c =
    let s = c.in-Some.ensures.steps in
    record {
      passed = omega (arith, ap length s.0, c.loop-w.invariant.passed);
      same = out_good _ s.0 s.1 refl (sym c.job_good.ensures ∙ c.if-not-job_good.false) c.loop-w.invariant.same;
    }

pub returns-then-not-job_good : goal.returns-then-not-job_good
returns-then-not-job_good c =
    let s = c.in-Some.ensures.steps in
    some_found _ (out_bad _ s.0 s.1 (sym c.job_good.ensures ∙ c.if-not-job_good.true) c.loop-w.invariant.same)

pub returns : goal.returns
returns c =
    none_found (out_end _ _ _ (elim c.in-None.ensures.steps [ inl w ↦ inl w.1.0 | inr w ↦ inr w.1.0 ]) c.loop-w.invariant.same)
