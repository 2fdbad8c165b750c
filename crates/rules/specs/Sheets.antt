-- The day sheets P1 to P14, tried on the definitions by a single statement over the list of them.
use Rattle.std.specs.Prelude.{◌≡◌, refl, Bool, true, List, [], ◌∷◌, ℕ, take}
use Prim.Native.String.{String}
use Rattle.rules.specs.Basics.{every, some, every_pair, within, text, zeros, most_jobs}
use Rattle.rules.specs.Refusals.{number_of}
use Rattle.rules.specs.Tokens.{is_digit, is_letter_or_digit, is_blank, is_number, value_from, same, kind, between, closing, tokens_from, tokens}
use Rattle.rules.specs.Orders.{least_due, up_to, atom_number, number, atom_word, word, bracket, ending, leave, want, step_at, after, reads, start, order_of, ReadAnswer, refused_read, after_reading, read_answer}
use Rattle.rules.specs.Plans.{jobs_from, jobs, numbers_of, first_row, rows_of, preemptions}
use Rattle.rules.specs.Planning.{insert, due_order_from, due_order, rooms, scan, none, greatest_up_to, least_above, row_on, fill, one_row, two_rows, place_last, place_other, after_put, place_all, placing, job_good, first_out_from, first_out, bad_boards, bad_lists, refused_plan, after_placing, plan_answer}
use Rattle.rules.specs.Listings.{digits, decimal, fields, row_lines, refused_line, plan_lines, order_lines, listing}

-- An order and what is printed for it; an order and the dues that are read from it.
pub data Sheet : Type 0 where
  prints : String → String → Sheet
  has_dues : String → List ℕ → Sheet

unfoldable pub dues_of : ReadAnswer → List ℕ
dues_of a = take a.said.jobs a.due

unfoldable pub met : Sheet → Bool
met (prints order lines) = same (listing (text order)) (text lines)
met (has_dues order dues) = same (dues_of (read_answer (text order) (zeros most_jobs) (zeros most_jobs))) dues

unfoldable pub sheets : List Sheet
sheets =
    prints "(order 1 (job 5 5))" "plan 1 1 1 0\n1 1 0 5\n"  -- P1
    ∷ prints "(order 1 (job 6 5))" "refused 9 1\n"  -- P2
    ∷ prints "(order 2 (job 2 3) (job 2 3) (job 2 3))" "plan 2 3 4 1\n1 1 0 2\n1 2 2 3\n2 2 0 1\n2 3 1 3\n"  -- P3
    ∷ prints "(order 2 (job 2 3) (job 2 3) (job 3 3))" "refused 9 3\n"  -- P4
    ∷ prints "(order 3 (job 2 2) (job 2 2) (job 1 4) (job 2 4) (job 4 4))" "plan 3 5 5 0\n1 1 0 2\n2 2 0 2\n1 3 2 3\n2 4 2 4\n3 5 0 4\n"  -- P5
    ∷ prints "(order 2 (job 2 3) (job 3 3) (job 1 3))" "plan 2 3 3 0\n1 1 0 2\n2 2 0 3\n1 3 2 3\n"  -- P6
    ∷ prints "(order 2 (job 2 3) (job 2 3))" "plan 2 2 2 0\n1 1 0 2\n2 2 0 2\n"  -- P7
    ∷ prints "(order 1 (job 2 5) (job 1 1))" "plan 1 2 2 0\n1 2 0 1\n1 1 1 3\n"  -- P8
    ∷ prints "(order 1 (job 3 5) (group 4 (group 6 (job 1 9))))" "plan 1 2 2 0\n1 2 0 1\n1 1 1 4\n"  -- P9
    ∷ has_dues "(order 1 (job 3 5) (group 4 (group 6 (job 1 9))))" (5 ∷ 4 ∷ [])  -- P9
    ∷ prints "(order 1 (job 3 0))" "refused 4 16\n"  -- P10
    ∷ prints "(order 65)" "refused 5 7\n"  -- P11
    ∷ prints "(order 2)" "refused 8 9\n"  -- P12
    ∷ prints "(order 1 (job 2 2) (job 1 2) (job 1 5))" "refused 9 2\n"  -- P13
    ∷ prints "" "refused 3 0\n"  -- P14
    ∷ []

pub sheets_hold : every met sheets ≡ true
unfolding every met sheets dues_of some every_pair within number_of is_digit is_letter_or_digit is_blank is_number value_from same kind between closing tokens_from tokens least_due up_to atom_number number atom_word word bracket ending leave want step_at after reads start order_of refused_read after_reading read_answer jobs_from jobs numbers_of first_row rows_of preemptions insert due_order_from due_order rooms scan none greatest_up_to least_above row_on fill one_row two_rows place_last place_other after_put place_all placing job_good first_out_from first_out bad_boards bad_lists refused_plan after_placing plan_answer digits decimal fields row_lines refused_line plan_lines order_lines listing
sheets_hold = refl
