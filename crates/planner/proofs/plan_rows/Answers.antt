-- A refusal of the day writes nothing; what is left of the answer is that of placing the day's jobs.
use Rattle.std.proofs.lemmas.Result.{err_from_is_err_and}
use Rattle.planner.specs.Days.{refused_answer}
use Rattle.planner.proofs.plan_rows.Goals as goal

pub returns-in_err-test_day : goal.returns-in_err-test_day
returns-in_err-test_day c =
    let p = err_from_is_err_and c.from_residual.result c.from_residual.ensures.1 in
    let answer = refused_answer _ _ _ c.in_err-test_day.ensures in
    record { said = rw (p.1, p.2) answer.said; later = answer.later }
