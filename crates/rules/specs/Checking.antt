-- The checker's whole answer. It writes to no buffer.
use Rattle.std.specs.Prelude.{Bool, true, false, ◌||◌, List, ℕ, ◌*◌, length, ltb}
use Rattle.rules.specs.declared.Refusal.{Refusal}
use Rattle.rules.specs.declared.Refusal.TheVariants.{BadBoards, BadLists, OutOfRange}
use Rattle.rules.specs.declared.Checked.{Checked}
use Rattle.rules.specs.Basics.{pick, most_rows}
use Rattle.rules.specs.Refusals.{number_of}
use Rattle.rules.specs.Plans.{Job, Row, jobs, rows_of, is_plan, preemptions}
use Rattle.rules.specs.Planning.{bad_boards, bad_lists, first_out}

unfoldable pub refused_check : Refusal → ℕ → Checked
refused_check refusal place = record { refusal = number_of refusal; place = place; yes = 0; preemptions = 0 }

-- "Then yes or no, with the number of preemptions: rows minus jobs for yes, 0 for no"
unfoldable pub verdict : Bool → List Row → List Job → Checked
verdict true rows js = record { refusal = 0; place = 0; yes = 1; preemptions = preemptions rows js }
verdict false rows js = record { refusal = 0; place = 0; yes = 0; preemptions = 0 }

-- "13 (as above, or over 2,000 rows, or a table shorter than 4 numbers per row)"
unfoldable pub bad_table : List ℕ → ℕ → Bool
bad_table table count = ltb most_rows count || ltb (length table) (4 * count)

-- "Order: 12; 13; 14 for works and dues"
unfoldable pub check_answer : ℕ → List ℕ → List ℕ → List ℕ → ℕ → Checked
check_answer m works dues table count =
    pick (bad_boards m) (refused_check BadBoards 0)
    (pick (bad_lists works dues || bad_table table count) (refused_check BadLists 0)
    (pick (ltb 0 (first_out works dues)) (refused_check OutOfRange (first_out works dues))
    (verdict (is_plan m (jobs works dues) (rows_of count table)) (rows_of count table) (jobs works dues))))
