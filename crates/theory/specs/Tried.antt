-- The demands' own definitions, tried: P3 reaches the figure of demand 3, so it cannot be lowered; P13 is refused.
use Rattle.std.specs.Prelude.{◌≡◌, refl, List, [], ◌∷◌, length}
use Rattle.rules.specs.Basics.{every, some}
use Rattle.rules.specs.Plans.{Row, jobs_from, jobs}
use Rattle.rules.specs.Planning.{insert, due_order_from, due_order, rooms, scan, none, greatest_up_to, least_above, row_on, fill, one_row, two_rows, place_last, place_other, after_put, place_all, placing, placed, unplaced}
use Rattle.theory.specs.Demands.{total, minutes_in, rows_for, distinct, rows_at_most}

-- P5's due minutes
pub two_dues : distinct (2 ∷ 2 ∷ 4 ∷ 4 ∷ 4 ∷ []) ≡ 2
unfolding distinct some
two_dues = refl

-- P3: four rows, the second job's two among them, six minutes in all
unfoldable pub p3_rows : List Row
p3_rows =
    record { board = 1; job = 1; from = 0; to = 2 } ∷ record { board = 1; job = 2; from = 2; to = 3 }
    ∷ record { board = 2; job = 2; from = 0; to = 1 } ∷ record { board = 2; job = 3; from = 1; to = 3 } ∷ []

pub p3_placed : placing 2 (2 ∷ 2 ∷ 2 ∷ []) (3 ∷ 3 ∷ 3 ∷ []) ≡ placed p3_rows
unfolding p3_rows every some jobs_from jobs insert due_order_from due_order rooms scan none greatest_up_to least_above row_on fill one_row two_rows place_last place_other after_put place_all placing
p3_placed = refl

pub p3_figures : (length p3_rows ≡ rows_at_most 3 (distinct (3 ∷ 3 ∷ 3 ∷ [])) 2) × (rows_for 2 p3_rows ≡ 2) × (total minutes_in p3_rows ≡ 6)
unfolding p3_rows distinct some rows_for
p3_figures = (refl, refl, refl)

-- P13: job 2 is the first that cannot be met
pub p13_refused : placing 1 (2 ∷ 1 ∷ 1 ∷ []) (2 ∷ 2 ∷ 5 ∷ []) ≡ unplaced 2
unfolding every some jobs_from jobs insert due_order_from due_order rooms scan none greatest_up_to least_above row_on fill one_row two_rows place_last place_other after_put place_all placing
p13_refused = refl
