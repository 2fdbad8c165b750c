-- Demands 2 and 3 of the planner, over the definitions of crates/rules: each record says what is demanded, a field a sentence.
-- Only statements stand here; Proved and Answers in proofs/ prove each under a like name, for every input.
use Rattle.std.specs.Prelude.{◌≡◌, true, false, List, [], ◌∷◌, ◌++◌, map, ◌⊎◌, ℕ, ◌+◌, ◌-◌, ◌*◌, ◌≤◌, min, length, get_or, ltb, eqb}
use Rattle.rules.specs.Basics.{pick, All, Pairs, some}
use Rattle.rules.specs.declared.Refusal.TheVariants.{NoPlan}
use Rattle.rules.specs.declared.Planned.{Planned}
use Rattle.rules.specs.Refusals.{number_of}
use Rattle.rules.specs.Plans.{Job, Row, Plan, jobs, rows_of, is_plan}
use Rattle.rules.specs.Planning.{placed, unplaced, place_all, placing, due_order, bad_boards, bad_lists, first_out, PlanAnswer}
use Rattle.rules.specs.Checking.{check_answer}

-- the sum of a number of each element
abbrev pub total : {A : Type 0} → (A → ℕ) → List A → ℕ
total f [] = 0
total f (x ∷ xs) = f x + total f xs

-- a row's minutes on its board
abbrev pub minutes_in : Row → ℕ
minutes_in r = r.to - r.from

-- how many rows a job has
unfoldable pub rows_for : ℕ → List Row → ℕ
rows_for number rows = total (λ r. pick (eqb r.job number) 1 0) rows

-- how many different numbers a list has: each counts where it stands last
unfoldable pub distinct : List ℕ → ℕ
distinct [] = 0
distinct (d ∷ ds) = pick (some (eqb d) ds) 0 1 + distinct ds

-- Demand 3's figures, for n jobs with k different due minutes on m boards: "n plus the smaller of n - 2 and k times (m - 1)".
abbrev pub rows_at_most : ℕ → ℕ → ℕ → ℕ
rows_at_most n k m = n + min (n - 2) (k * (m - 1))

-- Round what is already there the first job may be moved too.
abbrev pub rows_at_most_round : ℕ → ℕ → ℕ → ℕ
rows_at_most_round n k m = n + min (n - 1) (k * (m - 1))

-- and for each job
abbrev pub rows_at_most_each : ℕ
rows_at_most_each = 2

-- No plan: the job of this number is the first in the order that cannot be met with those before it.
pub record FirstUnmet (PlanFor : List Job → List Row → Type 0) (order : List Job) (number : ℕ) : Type 0 where
  pub before : List Job
  pub job : Job
  pub after : List Job
  pub in_order : order ≡ before ++ (job ∷ after)
  pub named : job.number ≡ number
  -- those before it have a plan
  pub rows : List Row
  pub met : PlanFor before rows
  -- with it they have none
  pub unmet : (rows : List Row) → PlanFor (before ++ (job ∷ [])) rows → ⊥

-- The base

-- What the planner's checks 12, 13 and 14 leave, as far as it matters here.
pub record GoodDay (m : ℕ) (works dues : List ℕ) : Type 0 where
  pub boards : 1 ≤ m
  pub lists : length works ≡ length dues
  pub some_job : 1 ≤ length works
  pub works_good : All (λ w. 1 ≤ w) works
  pub dues_good : All (λ d. 1 ≤ d) dues

-- Demand 2: "A table given out is a plan. No plan is said exactly when none in whole minutes exists, and names the first job
-- in due order that cannot be met with those before it."
pub record Demand2 (m : ℕ) (works dues : List ℕ) : Type 0 where
  -- the rows placed are a plan
  pub plan : (rows : List Row) → placing m works dues ≡ placed rows → Plan m (jobs works dues) rows
  -- whose busy minutes on all boards together equal the total work
  pub busy : (rows : List Row) → placing m works dues ≡ placed rows → total minutes_in rows ≡ total (λ w. w) works
  -- a refusal names the first job in due order that cannot be met with those before it
  pub first : (number : ℕ) → placing m works dues ≡ unplaced number → FirstUnmet (Plan m) (due_order (jobs works dues)) number
  -- it comes only where no plan exists
  pub refused_right : (number : ℕ) → placing m works dues ≡ unplaced number → (rows : List Row) → Plan m (jobs works dues) rows → ⊥
  -- and where no plan exists it comes
  pub none_refused : ((rows : List Row) → Plan m (jobs works dues) rows → ⊥) → (number : ℕ) × (placing m works dues ≡ unplaced number)

-- Demand 3: few moves
pub record Demand3 (m : ℕ) (works dues : List ℕ) : Type 0 where
  -- there are no more rows than the figure
  pub few : (rows : List Row) → placing m works dues ≡ placed rows → length rows ≤ rows_at_most (length works) (distinct dues) m
  -- no job has more than two
  pub two : (rows : List Row) → placing m works dues ≡ placed rows → (number : ℕ) → rows_for number rows ≤ rows_at_most_each
  -- the first job in due order has one
  pub first_one : (rows : List Row) → placing m works dues ≡ placed rows → (j : Job) (js : List Job) → due_order (jobs works dues) ≡ j ∷ js → rows_for j.number rows ≡ 1
  -- and so has the last
  pub last_one : (rows : List Row) → placing m works dues ≡ placed rows → (js : List Job) (j : Job) → due_order (jobs works dues) ≡ js ++ (j ∷ []) → rows_for j.number rows ≡ 1

-- "The checker says yes to exactly the plans."
pub record TestRight (m : ℕ) (js : List Job) (rows : List Row) : Type 0 where
  pub yes_plan : is_plan m js rows ≡ true → Plan m js rows
  pub plan_yes : Plan m js rows → is_plan m js rows ≡ true

-- The same of the planner's whole answer, for every input: of the numbers said and the table as it is left.

-- 12, 13, 10 and 14 do not apply
pub record ChecksPass (m : ℕ) (works dues table : List ℕ) : Type 0 where
  pub boards : bad_boards m ≡ false
  pub lists : bad_lists works dues ≡ false
  pub buffer : ltb (length table) (8 * length works) ≡ false
  pub numbers : ltb 0 (first_out works dues) ≡ false

-- none: refusal 9 is given exactly when no plan in whole minutes exists, and names the first job in due order that cannot be met
-- with those before it.
pub record NoneRight (m : ℕ) (works dues table : List ℕ) (said : Planned) : Type 0 where
  -- its place is that job's number
  pub first : said.refusal ≡ number_of NoPlan → FirstUnmet (Plan m) (due_order (jobs works dues)) said.place
  -- it comes only where no rows at all form a plan
  pub only : said.refusal ≡ number_of NoPlan → (rows : List Row) → Plan m (jobs works dues) rows → ⊥
  -- and always there, past the checks
  pub always : ChecksPass m works dues table → ((rows : List Row) → Plan m (jobs works dues) rows → ⊥) → said.refusal ≡ number_of NoPlan
  -- where no check refuses, a plan is given or "no plan" is said
  pub either : ChecksPass m works dues table → (said.refusal ≡ 0) ⊎ (said.refusal ≡ number_of NoPlan)

-- few: at most the figure's rows, two a job, one for the first and the last job in due order.
pub record FewRows (m : ℕ) (works dues : List ℕ) (rows : List Row) : Type 0 where
  pub few : length rows ≤ rows_at_most (length works) (distinct dues) m
  pub two : (number : ℕ) → rows_for number rows ≤ rows_at_most_each
  pub first_one : (j : Job) (js : List Job) → due_order (jobs works dues) ≡ j ∷ js → rows_for j.number rows ≡ 1
  pub last_one : (js : List Job) (j : Job) → due_order (jobs works dues) ≡ js ++ (j ∷ []) → rows_for j.number rows ≡ 1

-- busy: the busy minutes of all boards together equal the total work.
abbrev pub BusyRight : List ℕ → List Row → Type 0
BusyRight works rows = total minutes_in rows ≡ total (λ w. w) works

pub record AnswerRight (m : ℕ) (works dues table : List ℕ) (a : PlanAnswer) : Type 0 where
  -- accepted: the table begins with a plan
  pub plan : a.said.refusal ≡ 0 → Plan m (jobs works dues) (rows_of a.said.rows a.table)
  -- of few rows
  pub few : a.said.refusal ≡ 0 → FewRows m works dues (rows_of a.said.rows a.table)
  -- whose minutes are the work
  pub busy : a.said.refusal ≡ 0 → BusyRight works (rows_of a.said.rows a.table)
  -- to which the checker says yes
  pub checked : a.said.refusal ≡ 0 → (check_answer m works dues a.table a.said.rows).yes ≡ 1
  -- refused: only and always where there is no plan
  pub none : NoneRight m works dues table a.said

-- Round what is already on the boards (W-207): each board is free from a given minute.

-- a plan whose rows begin no earlier than their board is free
pub record PlanRound (free : List ℕ) (js : List Job) (rows : List Row) : Type 0 where
  pub plan : Plan (length free) js rows
  pub after : All (λ r. get_or free (r.board - 1) 0 ≤ r.from) rows

-- jobs in due order, with work to do, and no two of one number
pub record GoodOrder (js : List Job) : Type 0 where
  pub sorted : Pairs (λ j k. j.due ≤ k.due) js
  pub works_good : All (λ j. 1 ≤ j.work) js
  pub differ : Pairs (λ j k. j.number ≡ k.number → ⊥) js

pub record Demand2Round (free : List ℕ) (js : List Job) : Type 0 where
  pub plan : (rows : List Row) → place_all [] free js ≡ placed rows → PlanRound free js rows
  pub busy : (rows : List Row) → place_all [] free js ≡ placed rows → total minutes_in rows ≡ total (λ j. j.work) js
  pub first : (number : ℕ) → place_all [] free js ≡ unplaced number → FirstUnmet (PlanRound free) js number
  pub refused_right : (number : ℕ) → place_all [] free js ≡ unplaced number → (rows : List Row) → PlanRound free js rows → ⊥
  pub none_refused : ((rows : List Row) → PlanRound free js rows → ⊥) → (number : ℕ) × (place_all [] free js ≡ unplaced number)

pub record Demand3Round (free : List ℕ) (js : List Job) : Type 0 where
  pub few : (rows : List Row) → place_all [] free js ≡ placed rows → length rows ≤ rows_at_most_round (length js) (distinct (map (λ j. j.due) js)) (length free)
  pub two : (rows : List Row) → place_all [] free js ≡ placed rows → (number : ℕ) → rows_for number rows ≤ rows_at_most_each
  pub last_one : (rows : List Row) → place_all [] free js ≡ placed rows → (before : List Job) (j : Job) → js ≡ before ++ (j ∷ []) → rows_for j.number rows ≡ 1
