-- The planner's table passes the checker: what the two contracts give together.
use Rattle.std.specs.Prelude.{◌≡◌, List, ℕ, ◌-◌, length}
use Rattle.std.proofs.Common.{sym, ◌∙◌, inl, inr, arith}
use Rattle.std.proofs.Math.Path.{ap}
use Rattle.std.proofs.Math.Decide.{dec_le}
use Rattle.rules.specs.declared.Refusal.{Refusal}
use Rattle.rules.specs.declared.Refusal.TheVariants.{BadBoards, BadLists, OutOfRange}
use Rattle.rules.specs.declared.Checked.{Checked}
use Rattle.rules.specs.Plans.{jobs, rows_of, is_plan}
use Rattle.rules.specs.Planning.{PlanAnswer, plan_answer, bad_boards, bad_lists, first_out}
use Rattle.rules.specs.Checking.{refused_check, bad_table, check_answer}
use Rattle.laws.specs.Tests.{decided}
use Rattle.dayrules.specs.Ranges.{lists_fit}
use Rattle.theory.proofs.Answers.{answer_right}
use Rattle.checker.specs.Answer.{at_boards, at_lists, at_table, at_numbers, at_rows, said_yes, verdict_plan, verdict_no}

-- a yes comes with "rows minus jobs", and only past the checks
module _ (m : ℕ) (works dues table : List ℕ) (count : ℕ) where
  refusals_say_no : (r : Refusal) (place : ℕ) → check_answer m works dues table count ≡ refused_check r place → (check_answer m works dues table count).yes ≡ 1 → ⊥
  unfolding refused_check
  refusals_say_no r place e y = omega (arith, ap (λ (c : Checked). c.yes) e)

  pub yes_said : (check_answer m works dues table count).yes ≡ 1 → check_answer m works dues table count ≡ said_yes (count - length works)
  yes_said y = elim (decided (bad_boards m)) [
    | inl b ↦ absurd (refusals_say_no BadBoards 0 (at_boards m works dues table count b) y)
    | inr b ↦ elim (decided (bad_lists works dues)) [
      | inl l ↦ absurd (refusals_say_no BadLists 0 (at_lists m works dues table count b l) y)
      | inr l ↦ elim (decided (bad_table table count)) [
        | inl t ↦ absurd (refusals_say_no BadLists 0 (at_table m works dues table count b t) y)
        | inr t ↦ elim (dec_le (first_out works dues) 0) [
          | no o ↦ absurd (refusals_say_no OutOfRange (first_out works dues) (at_numbers m works dues table count b l t (omega arith)) y)
          | yes o ↦ elim (decided (is_plan m (jobs works dues) (rows_of count table))) [
            | inl p ↦ at_rows m works dues table count b l t o ∙ verdict_plan _ works dues table count (lists_fit works dues l).0 p
            | inr n ↦ absurd (omega (arith, ap (λ (c : Checked). c.yes) (at_rows m works dues table count b l t o), verdict_no _ (rows_of count table) (jobs works dues) n))
          ]
        ]
      ]
    ]
  ]

-- Wherever the planner gives out a table, the checker, asked about this table and this row count, says yes, with the row
-- count minus the jobs as the number of preemptions.
pub planner_passes : (m : ℕ) (works dues table : List ℕ) (a : PlanAnswer) (r : Checked) → a ≡ plan_answer m works dues table → a.said.refusal ≡ 0
    → r ≡ check_answer m works dues a.table a.said.rows → r ≡ said_yes (a.said.rows - length works)
planner_passes m works dues table a r e z c =
    c ∙ yes_said m works dues a.table a.said.rows (rw e ((answer_right m works dues table).checked (ap (λ (x : PlanAnswer). x.said.refusal) (sym e) ∙ z)))
