-- What `planlist` prints for an order on standard input.
use Rattle.std.specs.Prelude.{List, [], ◌∷◌, ◌++◌, ℕ, zero, suc, ◌+◌, ◌*◌, ◌/◌, ◌%◌, length, take, ltb, eqb}
use Rattle.rules.specs.Basics.{pick, text, zeros, most_jobs}
use Rattle.rules.specs.Plans.{Row, jobs, rows_of, preemptions}
use Rattle.rules.specs.Orders.{ReadAnswer, read_answer}
use Rattle.rules.specs.Planning.{PlanAnswer, plan_answer}

-- a number in decimal digits, before the bytes behind it; the count of digits left never runs out, since n / 10 is below n
unfoldable pub digits : ℕ → ℕ → List ℕ → List ℕ
digits zero n behind = behind
digits (suc left) n behind =
    let more = digits left (n / 10) ((48 + n % 10) ∷ behind) in
    pick (ltb n 10) ((48 + n) ∷ behind) more

unfoldable pub decimal : ℕ → List ℕ
decimal n = digits (suc n) n []

-- "One space stands between fields, a line feed after each line"
unfoldable pub fields : List ℕ → List ℕ
fields [] = 10 ∷ []
fields (n ∷ ns) = 32 ∷ (decimal n ++ fields ns)

-- "Then the rows"
unfoldable pub row_lines : List Row → List ℕ
row_lines [] = []
row_lines (r ∷ rows) = decimal r.board ++ (fields (r.job ∷ r.from ∷ r.to ∷ []) ++ row_lines rows)

-- "A refusal prints one line: `refused`, number, place"
unfoldable pub refused_line : ℕ → ℕ → List ℕ
refused_line refusal place = text "refused" ++ fields (refusal ∷ place ∷ [])

-- "First line: `plan`, boards, jobs, rows, preemptions"
unfoldable pub plan_lines : ℕ → List ℕ → List ℕ → PlanAnswer → List ℕ
plan_lines boards works dues a =
    let rows = rows_of a.said.rows a.table in
    let js = jobs works dues in
    pick (eqb a.said.refusal 0)
    (text "plan" ++ (fields (boards ∷ length js ∷ length rows ∷ preemptions rows js ∷ []) ++ row_lines rows))
    (refused_line a.said.refusal a.said.place)

unfoldable pub order_lines : ReadAnswer → List ℕ
order_lines a =
    let works = take a.said.jobs a.work in
    let dues = take a.said.jobs a.due in
    pick (eqb a.said.refusal 0)
    (plan_lines a.said.boards works dues (plan_answer a.said.boards works dues (zeros (8 * length works))))
    (refused_line a.said.refusal a.said.place)

unfoldable pub listing : List ℕ → List ℕ
listing file = order_lines (read_answer file (zeros most_jobs) (zeros most_jobs))
