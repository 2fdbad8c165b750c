-- Which plan is given, and the planner's whole answer.
use Rattle.std.specs.Prelude.{Bool, not, ◌&&◌, ◌||◌, List, [], ◌∷◌, ◌++◌, map, ℕ, suc, ◌+◌, ◌*◌, ◌-◌, length, get_or, set, leb, ltb, eqb}
use Rattle.rules.specs.declared.Refusal.{Refusal}
use Rattle.rules.specs.declared.Refusal.TheVariants.{NoPlan, ShortBuffer, BadBoards, BadLists, OutOfRange}
use Rattle.rules.specs.declared.Planned.{Planned}
use Rattle.rules.specs.declared.Spot.{Spot}
use Rattle.rules.specs.Basics.{pick, is_empty, every, within, zeros, most_boards, most_minutes, most_jobs}
use Rattle.rules.specs.Refusals.{number_of}
use Rattle.rules.specs.Plans.{Job, Row, jobs, numbers_of}

-- "Take jobs in due order: by due minute, then by job number": each job, in the order of the numbers, goes behind those
-- that are due no later.
unfoldable pub insert : Job → List Job → List Job
insert j [] = j ∷ []
insert j (k ∷ ks) =
    let behind = k ∷ insert j ks in
    pick (ltb j.due k.due) (j ∷ k ∷ ks) behind

unfoldable pub due_order_from : List Job → List Job → List Job
due_order_from ordered [] = ordered
due_order_from ordered (j ∷ js) = due_order_from (insert j ordered) js

unfoldable pub due_order : List Job → List Job
due_order js = due_order_from [] js

-- "a board's room is d minus its free-from minute, never below 0"
unfoldable pub rooms : ℕ → List ℕ → List ℕ
rooms due free = map (λ f. due - f) free

-- "Equal boards: the lowest number wins": the first board that beats all before it and is beaten by none after it.
unfoldable pub scan : (ℕ → ℕ → Bool) → ℕ → Spot → List ℕ → Spot
scan beats board best [] = best
scan beats board best (room ∷ rest) =
    scan beats (suc board) (pick (beats room best.room) (record { board = board; room = room }) best) rest

unfoldable pub none : Spot
none = record { board = 0; room = 0 }

-- the greatest room that is not above the limit, and not 0
unfoldable pub greatest_up_to : ℕ → List ℕ → Spot
greatest_up_to limit rs = scan (λ room best. ltb best room && leb room limit) 0 none rs

-- the least room above the limit
unfoldable pub least_above : ℕ → List ℕ → Spot
least_above limit rs = scan (λ room best. ltb limit room && (eqb best 0 || ltb room best)) 0 none rs

-- What placing a job leads to: the boards' new free-from minutes and its rows, or nothing.
pub data Put : Type 0 where
  cannot : Put
  put : List ℕ → List Row → Put

-- `minutes` of the job on one board, from its free-from minute on
unfoldable pub row_on : List ℕ → Job → ℕ → ℕ → Row
row_on free j board minutes = record { board = suc board; job = j.number; from = get_or free board 0; to = get_or free board 0 + minutes }

unfoldable pub fill : List ℕ → ℕ → ℕ → List ℕ
fill free board minutes = set free board (get_or free board 0 + minutes)

unfoldable pub one_row : List ℕ → Job → ℕ → Put
one_row free j board = put (fill free board j.work) (row_on free j board j.work ∷ [])

-- "The job fills A up to d. What is left goes on B from its free-from minute. If nothing is left there is no second row"
unfoldable pub two_rows : List ℕ → Job → Spot → Spot → Put
two_rows free j a b =
    pick (eqb j.work a.room) (one_row free j a.board)
    (put (fill (fill free a.board a.room) b.board (j.work - a.room))
    (row_on free j a.board a.room ∷ row_on free j b.board (j.work - a.room) ∷ []))

-- 1. "The last job in due order goes to the board with the most room, in one row; 9 if t exceeds it."
unfoldable pub place_last : List ℕ → Job → Put
place_last free j =
    let most = greatest_up_to j.due (rooms j.due free) in
    pick (ltb most.room j.work) cannot (one_row free j most.board)

-- 2. "If t exceeds every room: 9." 3. "If t is at most every room that isn't 0: the board with the least such room."
-- 4. "Otherwise, A is the board with the greatest room not above t (and not 0), B the one with the least room above t."
unfoldable pub place_other : List ℕ → Job → Put
place_other free j =
    let t = j.work in
    let rs = rooms j.due free in
    pick (every (λ r. ltb r t) rs) cannot
    (pick (every (λ r. eqb r 0 || leb t r) rs) (one_row free j (least_above 0 rs).board)
    (two_rows free j (greatest_up_to t rs) (least_above t rs)))

-- All jobs: the rows "as placed, A before B", or the job being placed when none of the steps can.
pub data Placing : Type 0 where
  unplaced : ℕ → Placing
  placed : List Row → Placing

unfoldable pub after_put : ℕ → Put → (List ℕ → List Row → Placing) → Placing
after_put number cannot more = unplaced number
after_put number (put free rows) more = more free rows

-- from given free-from minutes, behind the rows placed so far
unfoldable pub place_all : List Row → List ℕ → List Job → Placing
place_all rows free [] = placed rows
place_all rows free (j ∷ js) =
    after_put j.number (pick (is_empty js) (place_last free j) (place_other free j)) (λ later new. place_all (rows ++ new) later js)

-- "Each board has a free-from minute, at first 0"
unfoldable pub placing : ℕ → List ℕ → List ℕ → Placing
placing m works dues = place_all [] (zeros m) (due_order (jobs works dues))

-- 14: the first job whose work or due is "not 1 to 1,000,000", or 0 if there is none
unfoldable pub job_good : ℕ → ℕ → Bool
job_good w d = within 1 most_minutes w && within 1 most_minutes d

unfoldable pub first_out_from : ℕ → List ℕ → List ℕ → ℕ
first_out_from number [] dues = 0
first_out_from number (w ∷ works) [] = 0
first_out_from number (w ∷ works) (d ∷ dues) =
    let later = first_out_from (suc number) works dues in
    pick (job_good w d) later number

unfoldable pub first_out : List ℕ → List ℕ → ℕ
first_out works dues = first_out_from 1 works dues

-- 12, "boards not 1 to 64"; 13, "work and due lists of unequal length, or not 1 to 1,000 long"
unfoldable pub bad_boards : ℕ → Bool
bad_boards m = not (within 1 most_boards m)

unfoldable pub bad_lists : List ℕ → List ℕ → Bool
bad_lists works dues = not (eqb (length works) (length dues) && within 1 most_jobs (length works))

-- The planner's whole answer: its numbers and the later contents of the table.
pub record PlanAnswer : Type 0 where
  pub said : Planned
  pub table : List ℕ

unfoldable pub refused_plan : Refusal → ℕ → List ℕ → PlanAnswer
refused_plan refusal place table = record { said = record { refusal = number_of refusal; place = place; rows = 0 }; table = table }

-- "Accepted: the row count, the rows, four numbers each, then zeros to the table's end. Refused: ... table all zero for 9"
unfoldable pub after_placing : Placing → List ℕ → PlanAnswer
after_placing (unplaced number) table = refused_plan NoPlan number (zeros (length table))
after_placing (placed rows) table = record {
  said = record { refusal = 0; place = 0; rows = length rows };
  table = numbers_of rows ++ zeros (length table - 4 * length rows);
}

-- "Order: 12; 13; 10 (table under 8 numbers per job); 14; 9"
unfoldable pub plan_answer : ℕ → List ℕ → List ℕ → List ℕ → PlanAnswer
plan_answer m works dues table =
    pick (bad_boards m) (refused_plan BadBoards 0 table)
    (pick (bad_lists works dues) (refused_plan BadLists 0 table)
    (pick (ltb (length table) (8 * length works)) (refused_plan ShortBuffer 0 table)
    (pick (ltb 0 (first_out works dues)) (refused_plan OutOfRange (first_out works dues) table)
    (after_placing (placing m works dues) table))))
