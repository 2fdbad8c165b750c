-- The whole answer for a day.
use Rattle.std.specs.Prelude.{◌≡◌, refl, None, Some, Result, Ok, Err, true, false, ℕ, ◌*◌, ◌-◌, ◌≤◌, ◌<◌, length, take, List, [], ◌++◌, map}
use Rattle.std.proofs.Common.{◌∙◌, arith, take_at, Fits, lt-ltb, le-ltb, ap}
use Rattle.std.proofs.lemmas.List.{take-replicate}
use Rattle.std.specs.Int.{w32}
use Rattle.std.specs.Result.{result_unwrap_or}
use Rattle.refusals.specs.declared.Fault.{Fault}
use Rattle.rules.specs.declared.Refusal.TheVariants.{ShortBuffer, BadBoards, BadLists, OutOfRange}
use Rattle.rules.specs.Basics.{zeros, most_jobs, most_boards}
use Rattle.rules.specs.Plans.{jobs}
use Rattle.rules.specs.Planning.{Placing, unplaced, placed, place_all, placing, due_order, first_out, bad_boards, bad_lists, PlanAnswer, refused_plan, after_placing, plan_answer}
use Rattle.laws.specs.Tests.{pick_yes, pick_no}
use Rattle.laws.specs.Found.{found, found_none, found_some, found_above}
use Rattle.dayrules.specs.Ranges.{boards_fit, lists_fit}
use Rattle.dayrules.specs.FirstOut.{first_out_bound}
use Rattle.ordering.specs.Records.{record_of, job_in}
use Rattle.ordering.specs.DueRecords.{jobs_ordered}
use Rattle.placing.specs.Lent.{rows_front}
use Rattle.planner.specs.Said.{planned_of, Answered}
use Rattle.planner.specs.Jobs.{Told}

-- what 12, 13, 10 and 14 have let through
pub record Day (m : ℕ) (works dues table : List ℕ) : Type 0 where
  pub some_boards : 1 ≤ m
  pub few_boards : m ≤ most_boards
  pub same_long : length works ≡ length dues
  pub few_jobs : length works ≤ most_jobs
  pub space : 8 * length works ≤ length table
  pub in_range : first_out works dues ≡ 0

-- clearing behind the rows gives the definition's table
pub told_cleared : (p : Placing) (table : List ℕ) (result : Result ℕ Fault) (table' : List ℕ) → Told p table result table' →
    length table' ≡ length table → (rows : ℕ) → rows ≡ result_unwrap_or result 0 →
    Answered (after_placing p table) result (take (4 * rows) table' ++ zeros (length table' - 4 * rows))
unfolding after_placing refused_plan
told_cleared (unplaced number) table result table' t e rows u =
    let none : rows ≡ 0 = u ∙ ap (λ (r : Result ℕ Fault). result_unwrap_or r 0) t in
    let all : length table' - 4 * 0 ≡ length table = omega arith in
    record {
      said = ap planned_of t;
      later = ap (λ (n : ℕ). take (4 * n) table' ++ zeros (length table' - 4 * n)) none ∙ ap zeros all;
    }
told_cleared (placed rs) table result table' t e rows u =
    let count : rows ≡ length rs = u ∙ ap (λ (r : Result ℕ Fault). result_unwrap_or r 0) t.0 in
    record {
      said = ap planned_of t.0;
      later = ap (λ (n : ℕ). take (4 * n) table' ++ zeros (length table' - 4 * n)) count
          ∙ ap (λ (n : ℕ). take (4 * length rs) table' ++ zeros (n - 4 * length rs)) e
          ∙ ap (λ (l : List ℕ). take (4 * length rs) l ++ zeros (length table - 4 * length rs)) t.1
          ∙ ap (λ (l : List ℕ). l ++ zeros (length table - 4 * length rs)) (rows_front rs table);
    }

-- "Each board has a free-from minute, at first 0": the front of as many zeros as there may be boards; and the records come
-- back as the jobs in due order, as many as there are jobs.
pub answered_day : (m : ℕ) (works dues table : List ℕ) → Day m works dues table → (free o rest : List ℕ)
    (result : Result ℕ Fault) (table' : List ℕ) →
    Answered (after_placing (place_all [] (take m free) (map job_in (take (length works) (o ++ rest)))) table) result table' →
    free ≡ zeros most_boards → length o ≡ length works → o ≡ map record_of (due_order (jobs works dues)) →
    Answered (after_placing (placing m works dues) table) result table'
unfolding placing
answered_day m works dues table day free o rest result table' a e long sorted =
    let front : take m free ≡ zeros m = ap (take m) e ∙ take-replicate m most_boards 0 (omega (arith, day.few_boards)) in
    let ordered : map job_in (take (length works) (o ++ rest)) ≡ due_order (jobs works dues) =
    ap (map job_in) (take_at o rest (length works) long ∙ sorted) ∙ jobs_ordered works dues day.in_range day.few_jobs in
    rw (front, ordered) at a

-- what the tests leave: the answer's refusal, or a day whose answer is that of placing its jobs
abbrev pub Tested : ℕ → List ℕ → List ℕ → List ℕ → Result (Unit {0}) Fault → Type 0
Tested m works dues table (Ok done) = Day m works dues table
    × (plan_answer m works dues table ≡ after_placing (placing m works dues) table)
Tested m works dues table (Err fault) = plan_answer m works dues table ≡ refused_plan fault.refusal fault.place table

-- The answer by the tests that were made, in their order.
module _ (m : ℕ) (works dues table : List ℕ) where
  pub tested_12 : (f : Fault) → f ≡ record { refusal = BadBoards; place = 0 } → bad_boards m ≡ true →
      Tested m works dues table (Err f)
  unfolding plan_answer
  tested_12 f e h = rw e (pick_yes _ _ _ h)

  module _ (boards : bad_boards m ≡ false) where
    pub tested_13 : (f : Fault) → f ≡ record { refusal = BadLists; place = 0 } → bad_lists works dues ≡ true →
        Tested m works dues table (Err f)
    unfolding plan_answer
    tested_13 f e h = rw e (pick_no _ _ _ boards ∙ pick_yes _ _ _ h)

    module _ (lists : bad_lists works dues ≡ false) where
      pub tested_10 : (f : Fault) → f ≡ record { refusal = ShortBuffer; place = 0 } → length table < 8 * length works →
          Tested m works dues table (Err f)
      unfolding plan_answer
      tested_10 f e h = rw e (pick_no _ _ _ boards ∙ pick_no _ _ _ lists ∙ pick_yes _ _ _ (lt-ltb _ _ h))

      module _ (space : 8 * length works ≤ length table) where
        pub out_fits : (out : ℕ) → Some out ≡ found (first_out works dues) → Fits w32 out
        out_fits out e = record {
          fits = omega (
            arith,
            found_some (first_out works dues) e refl,
            first_out_bound works dues,
            (lists_fit works dues lists).1.1,
          );
        }

        pub tested_14 : (out : ℕ) → Some out ≡ found (first_out works dues) →
            Tested m works dues table (Err (record { refusal = OutOfRange; place = out }))
        unfolding plan_answer
        tested_14 out e =
            pick_no _ _ _ boards ∙ pick_no _ _ _ lists ∙ pick_no _ _ _ (le-ltb _ _ space)
            ∙ pick_yes _ _ _ (lt-ltb 0 (first_out works dues) (found_above (first_out works dues) e refl))
            ∙ ap (λ (n : ℕ). refused_plan OutOfRange n table) (found_some (first_out works dues) e refl)

        pub tested_good : None ≡ found (first_out works dues) → Tested m works dues table (Ok tt)
        unfolding plan_answer
        tested_good e =
            let none : first_out works dues ≡ 0 = found_none (first_out works dues) e refl in (
              record {
                some_boards = (boards_fit m boards).0;
                few_boards = (boards_fit m boards).1;
                same_long = (lists_fit works dues lists).0;
                few_jobs = (lists_fit works dues lists).1.1;
                space = space;
                in_range = none;
              },
              pick_no _ _ _ boards ∙ pick_no _ _ _ lists ∙ pick_no _ _ _ (le-ltb _ _ space)
                  ∙ pick_no _ _ _ (le-ltb 0 (first_out works dues) (omega (arith, none))),
            )

-- a refusal writes nothing
pub refused_answer : (a : PlanAnswer) (table : List ℕ) (f : Fault) → a ≡ refused_plan f.refusal f.place table →
    Answered a (Err f) table
unfolding refused_plan
refused_answer a table f e = rw e (record { said = refl; later = refl })
