-- The checker's answer: one law for each way out, and what its yes and its no say of plans.
use Rattle.std.specs.Prelude.{◌≡◌, Bool, true, false, ◌&&◌, Option, Some, List, [], ◌∷◌, ℕ, zero, suc, ◌*◌, ◌-◌, ◌≤◌, ◌<◌, length, get_or, take, ltb}
use Rattle.std.proofs.Math.Path.{refl, sym, ap₂}
use Rattle.std.proofs.Common.{ap, ◌∙◌, length-take-le, true≢false, ltb-false, lt-ltb, le-ltb}
use Rattle.std.proofs.lemmas.Bool.{false≢true}
use Rattle.std.proofs.Math.Logic.{inl, inr}
use native.Mathlib.Omega.{arith}
use Rattle.std.proofs.Math.Decide.{dec_le}
use Rattle.rules.specs.declared.Refusal.{Refusal}
use Rattle.rules.specs.declared.Refusal.TheVariants.{BadBoards, BadLists, OutOfRange}
use Rattle.rules.specs.declared.Checked.{Checked}
use Rattle.rules.specs.Basics.{pick, every, every_pair, within, most_rows, most_minutes}
use Rattle.rules.specs.Refusals.{number_of}
use Rattle.rules.specs.Plans.{Job, Row, Plan, jobs_from, jobs, rows_of, row_good, pair_good, is_plan, preemptions}
use Rattle.rules.specs.Planning.{bad_boards, bad_lists, job_good, first_out_from, first_out}
use Rattle.rules.specs.Checking.{refused_check, verdict, bad_table, check_answer}
use Rattle.laws.specs.Tests.{pick_yes, pick_no, decided, and_right, and_no_left, and_no_right, or_left, or_right, or_no, or_no_left, or_no_right, within_high}
use Rattle.theory.specs.Test.{is_plan_plan, plan_is_plan}
use Rattle.laws.specs.Found.{found, found_some, found_above}
use Rattle.laws.specs.Rows.{length_rows_of}
use Rattle.dayrules.specs.FirstOut.{first_out_bound}
use Rattle.dayrules.specs.Ranges.{boards_fit, lists_fit}
use Rattle.tablerows.specs.Chunks.{rows_in, rows_in-taken}
use Rattle.checker.specs.Alone.{line_good, line_row, every_same}
use Rattle.checker.specs.Minutes.{exact_minutes, exact_jobs}

-- The ways out, in their order.
module _ (m : ℕ) (works dues table : List ℕ) (count : ℕ) where
  abbrev js : List Job
  js = jobs works dues

  abbrev rows : List Row
  rows = rows_of count table

  pub at_boards : bad_boards m ≡ true → check_answer m works dues table count ≡ refused_check BadBoards 0
  unfolding check_answer
  at_boards b = pick_yes (bad_boards m) _ _ b

  pub at_lists : bad_boards m ≡ false → bad_lists works dues ≡ true → check_answer m works dues table count ≡ refused_check BadLists 0
  unfolding check_answer
  at_lists b l = pick_no (bad_boards m) _ _ b ∙ pick_yes _ _ _ (or_left (bad_lists works dues) (bad_table table count) l)

  pub at_table : bad_boards m ≡ false → bad_table table count ≡ true → check_answer m works dues table count ≡ refused_check BadLists 0
  unfolding check_answer
  at_table b t = pick_no (bad_boards m) _ _ b ∙ pick_yes _ _ _ (or_right (bad_lists works dues) (bad_table table count) t)

  pub at_numbers : bad_boards m ≡ false → bad_lists works dues ≡ false → bad_table table count ≡ false → 0 < first_out works dues → check_answer m works dues table count ≡ refused_check OutOfRange (first_out works dues)
  unfolding check_answer
  at_numbers b l t o =
      pick_no (bad_boards m) _ _ b ∙ pick_no _ _ _ (or_no (bad_lists works dues) (bad_table table count) l t)
      ∙ pick_yes (ltb 0 (first_out works dues)) _ _ (lt-ltb 0 (first_out works dues) o)

  pub at_rows : bad_boards m ≡ false → bad_lists works dues ≡ false → bad_table table count ≡ false → first_out works dues ≤ 0 → check_answer m works dues table count ≡ verdict (is_plan m js rows) rows js
  unfolding check_answer
  at_rows b l t o =
      pick_no (bad_boards m) _ _ b ∙ pick_no _ _ _ (or_no (bad_lists works dues) (bad_table table count) l t)
      ∙ pick_no (ltb 0 (first_out works dues)) _ _ (le-ltb 0 (first_out works dues) o)

  -- what is left past the checks is the verdict
  not_zero : (r : Refusal) (place n : ℕ) → number_of r ≡ suc n → (refused_check r place).refusal ≡ 0 → ⊥
  unfolding refused_check
  not_zero r place n e z = omega arith

  past : (check_answer m works dues table count).refusal ≡ 0 → check_answer m works dues table count ≡ verdict (is_plan m js rows) rows js
  unfolding number_of
  past z = elim (decided (bad_boards m)) [
    | inl b ↦ absurd (not_zero BadBoards 0 11 refl (ap (λ (r : Checked). r.refusal) (sym (at_boards b)) ∙ z))
    | inr b ↦ elim (decided (bad_lists works dues)) [
      | inl l ↦ absurd (not_zero BadLists 0 12 refl (ap (λ (r : Checked). r.refusal) (sym (at_lists b l)) ∙ z))
      | inr l ↦ elim (decided (bad_table table count)) [
        | inl t ↦ absurd (not_zero BadLists 0 12 refl (ap (λ (r : Checked). r.refusal) (sym (at_table b t)) ∙ z))
        | inr t ↦ elim (dec_le (first_out works dues) 0) [
          | yes o ↦ at_rows b l t o
          | no o ↦ absurd (not_zero OutOfRange (first_out works dues) 13 refl (ap (λ (r : Checked). r.refusal) (sym (at_numbers b l t (omega arith))) ∙ z))
        ]
      ]
    ]
  ]

pub verdict_yes : (b : Bool) (rows : List Row) (js : List Job) → b ≡ true → (verdict b rows js).yes ≡ 1
unfolding verdict
verdict_yes true rows js e = refl
verdict_yes false rows js e = absurd (false≢true e)

pub verdict_no : (b : Bool) (rows : List Row) (js : List Job) → b ≡ false → (verdict b rows js).yes ≡ 0
unfolding verdict
verdict_no true rows js e = absurd (true≢false e)
verdict_no false rows js e = refl

-- "yes exactly when the rows form a plan", past the checks
pub record SaysPlans (m : ℕ) (works dues table : List ℕ) (count : ℕ) (r : Checked) : Type 0 where
  pub yes_plan : r.refusal ≡ 0 → r.yes ≡ 1 → Plan m (jobs works dues) (rows_of count table)
  pub plan_yes : r.refusal ≡ 0 → Plan m (jobs works dues) (rows_of count table) → r.yes ≡ 1
  pub no_plan_no : r.refusal ≡ 0 → (Plan m (jobs works dues) (rows_of count table) → ⊥) → r.yes ≡ 0

pub says_plans : (m : ℕ) (works dues table : List ℕ) (count : ℕ) (r : Checked) → r ≡ check_answer m works dues table count → SaysPlans m works dues table count r
says_plans m works dues table count r e =
    record {
      yes_plan = λ z y. elim (decided (is_plan m (jobs works dues) (rows_of count table))) [
        | inl t ↦ is_plan_plan m (jobs works dues) (rows_of count table) t
        | inr t ↦ absurd (omega (arith, no z t))
      ];
      plan_yes = λ z p. yes z (plan_is_plan m (jobs works dues) (rows_of count table) p);
      no_plan_no = λ z n. elim (decided (is_plan m (jobs works dues) (rows_of count table))) [
        | inl t ↦ absurd (n (is_plan_plan m (jobs works dues) (rows_of count table) t))
        | inr t ↦ no z t
      ];
    }
  where
    said : r.refusal ≡ 0 → r ≡ verdict (is_plan m (jobs works dues) (rows_of count table)) (rows_of count table) (jobs works dues)
    said z = e ∙ past m works dues table count (ap (λ (c : Checked). c.refusal) (sym e) ∙ z)

    yes : r.refusal ≡ 0 → is_plan m (jobs works dues) (rows_of count table) ≡ true → r.yes ≡ 1
    yes z t = ap (λ (c : Checked). c.yes) (said z) ∙ verdict_yes _ _ _ t

    no : r.refusal ≡ 0 → is_plan m (jobs works dues) (rows_of count table) ≡ false → r.yes ≡ 0
    no z t = ap (λ (c : Checked). c.yes) (said z) ∙ verdict_no _ _ _ t

-- what the tests leave, and what that is for the rows
pub record Passed (m : ℕ) (works dues table : List ℕ) (count : ℕ) : Type 0 where
  pub boards : bad_boards m ≡ false
  pub lists : bad_lists works dues ≡ false
  pub whole : bad_table table count ≡ false
  pub numbers : first_out works dues ≡ 0

pub record Fit (m : ℕ) (works dues rows : List ℕ) : Type 0 where
  pub boards_fit : m ≤ 64
  pub rows_fit : length rows ≤ 8000
  pub even : length works ≡ length dues
  pub jobs_fit : length works ≤ 1000
  pub small : (i : ℕ) → i < length dues → get_or dues i 0 ≤ most_minutes

small_from : (k : ℕ) (works dues : List ℕ) → length works ≡ length dues → first_out_from (suc k) works dues ≤ 0 → (i : ℕ) → i < length dues → get_or dues i 0 ≤ most_minutes
unfolding first_out_from job_good
small_from k [] [] l o i h = absurd (omega arith)
small_from k [] (d ∷ dues) l o i h = absurd (omega arith)
small_from k (w ∷ works) [] l o i h = absurd (omega arith)
small_from k (w ∷ works) (d ∷ dues) l o i h =
    elim (decided (job_good w d)) [
      | inr e ↦ absurd (omega (arith, pick_no (job_good w d) (first_out_from (suc (suc k)) works dues) (suc k) e))
      | inl e ↦ each i h
          (within_high 1 most_minutes d (and_right (within 1 most_minutes w) (within 1 most_minutes d) e))
          (small_from (suc k) works dues (omega arith) (omega (arith, pick_yes (job_good w d) (first_out_from (suc (suc k)) works dues) (suc k) e)))
    ]
  where
    each : (i : ℕ) → i < length (d ∷ dues) → d ≤ most_minutes → ((i : ℕ) → i < length dues → get_or dues i 0 ≤ most_minutes) → get_or (d ∷ dues) i 0 ≤ most_minutes
    each zero h p f = p
    each (suc i) h p f = f i (omega arith)

table_fits : (table : List ℕ) (count : ℕ) → bad_table table count ≡ false → (count ≤ 2000) × (4 * count ≤ length table)
unfolding bad_table
table_fits table count t = (
  ltb-false most_rows count (or_no_left (ltb most_rows count) (ltb (length table) (4 * count)) t),
  ltb-false (length table) (4 * count) (or_no_right (ltb most_rows count) (ltb (length table) (4 * count)) t),
)

module _ (m : ℕ) (works dues table : List ℕ) (count : ℕ) (p : Passed m works dues table count) where
  pub count_fits : (count ≤ 2000) × (4 * count ≤ length table)
  count_fits = table_fits table count p.whole

  pub fit : Fit m works dues (take (4 * count) table)
  unfolding first_out
  fit =
      let fits = lists_fit works dues p.lists in
      record {
        boards_fit = (boards_fit m p.boards).1;
        rows_fit = omega (arith, count_fits, length-take-le (4 * count) table count_fits.1);
        even = fits.0;
        jobs_fit = fits.1.1;
        small = small_from 0 works dues fits.0 (omega (arith, p.numbers));
      }

-- the parts of the test of a plan, by the lists
module _ (m : ℕ) (works dues : List ℕ) (rows : List Row) (even : length works ≡ length dues) where
  parts : is_plan m (jobs works dues) rows ≡ (every (line_good m dues) rows && (every_pair pair_good rows && exact_minutes works rows))
  unfolding is_plan
  parts =
      ap₂ (λ (a b : Bool). a && (every_pair pair_good rows && b))
      (every_same (row_good m (jobs works dues)) (line_good m dues) (λ r. sym (line_row m works dues even r)) rows)
      (sym (exact_jobs works dues rows even))

  pub bad_line : every (line_good m dues) rows ≡ false → is_plan m (jobs works dues) rows ≡ false
  bad_line e = parts ∙ and_no_left _ _ e

  pub bad_minutes : exact_minutes works rows ≡ false → is_plan m (jobs works dues) rows ≡ false
  bad_minutes e = parts ∙ and_no_right (every (line_good m dues) rows) _ (and_no_right (every_pair pair_good rows) _ e)

  pub by_pairs : every (line_good m dues) rows ≡ true → exact_minutes works rows ≡ true → is_plan m (jobs works dues) rows ≡ every_pair pair_good rows
  by_pairs e f =
      parts ∙ ap₂ (λ (a b : Bool). a && (every_pair pair_good rows && b)) e f ∙ and_end (every_pair pair_good rows)
    where
      and_end : (b : Bool) → (b && true) ≡ b
      and_end true = refl
      and_end false = refl

-- what a yes and a no answer
pub length-jobs : (works dues : List ℕ) → length works ≡ length dues → length (jobs works dues) ≡ length works
unfolding jobs jobs_from
length-jobs works dues l = from 1 works dues l
  where
    from : (n : ℕ) (works dues : List ℕ) → length works ≡ length dues → length (jobs_from n works dues) ≡ length works
    from n [] [] l = refl
    from n [] (d ∷ dues) l = refl
    from n (w ∷ works) [] l = absurd (omega arith)
    from n (w ∷ works) (d ∷ dues) l = ap suc (from (suc n) works dues (omega arith))

abbrev pub said_yes : ℕ → Checked
said_yes moves = record { refusal = 0; place = 0; yes = 1; preemptions = moves }

abbrev pub said_no : Checked
said_no = record { refusal = 0; place = 0; yes = 0; preemptions = 0 }

pub verdict_plan : (b : Bool) (works dues table : List ℕ) (count : ℕ) → length works ≡ length dues → b ≡ true → verdict b (rows_of count table) (jobs works dues) ≡ said_yes (count - length works)
unfolding verdict preemptions
verdict_plan true works dues table count l e = ap₂ (λ (a b : ℕ). said_yes (a - b)) (length_rows_of count table) (length-jobs works dues l)
verdict_plan false works dues table count l e = absurd (false≢true e)

pub verdict_none : (b : Bool) (rows : List Row) (js : List Job) → b ≡ false → verdict b rows js ≡ said_no
unfolding verdict
verdict_none true rows js e = absurd (true≢false e)
verdict_none false rows js e = refl

pub verdict_picked : (b : Bool) (works dues table : List ℕ) (count : ℕ) → length works ≡ length dues → pick b (said_yes (count - length works)) said_no ≡ verdict b (rows_of count table) (jobs works dues)
verdict_picked b works dues table count l =
    elim (decided b) [
      | inl e ↦ pick_yes b _ _ e ∙ sym (verdict_plan b works dues table count l e)
      | inr e ↦ pick_no b _ _ e ∙ sym (verdict_none b (rows_of count table) (jobs works dues) e)
    ]

-- the last two ways out, by what the code has in hand
pub job_fits : (works dues : List ℕ) (o : Option ℕ) (job : ℕ) → bad_lists works dues ≡ false → o ≡ found (first_out works dues) → o ≡ Some job → job ≤ 1000
job_fits works dues o job l e s = omega (arith, found_some (first_out works dues) e s, first_out_bound works dues, lists_fit works dues l)

pub out_of_range : (m : ℕ) (works dues table : List ℕ) (count job : ℕ) (o : Option ℕ) → bad_boards m ≡ false → bad_lists works dues ≡ false → bad_table table count ≡ false
    → o ≡ found (first_out works dues) → o ≡ Some job → check_answer m works dues table count ≡ refused_check OutOfRange job
out_of_range m works dues table count job o b l t e s =
    at_numbers m works dues table count b l t (found_above (first_out works dues) e s) ∙ ap (refused_check OutOfRange) (found_some (first_out works dues) e s)

pub decided_by_rows : (m : ℕ) (works dues table : List ℕ) (count : ℕ) (plan : Bool) (r : Checked) → Passed m works dues table count
    → plan ≡ is_plan m (jobs works dues) (rows_in (take (4 * count) table)) → r ≡ pick plan (said_yes (count - length works)) said_no → r ≡ check_answer m works dues table count
decided_by_rows m works dues table count plan r p y s =
    s ∙ verdict_picked plan works dues table count (fit m works dues table count p).even
    ∙ ap (λ (a : Bool). verdict a (rows_of count table) (jobs works dues))
    (y ∙ ap (is_plan m (jobs works dues)) (rows_in-taken count table (omega (arith, count_fits m works dues table count p))))
    ∙ sym (at_rows m works dues table count p.boards p.lists p.whole (omega (arith, p.numbers)))
