-- The listing in a lent buffer, and the laws that join the calls.
use Rattle.std.specs.Prelude.{◌≡◌, Result, Ok, Err, Bool, ◌||◌, ℕ, ◌+◌, ◌*◌, ◌-◌, ◌≤◌, ◌<◌, take, drop, ltb, eqb}
use Rattle.std.proofs.Math.Path.{refl, ap}
use Rattle.std.proofs.Common.{sym, ap₂, subst, ◌∙◌, arith, length-append, length-drop, lt-ltb, le-ltb, eq-eqb, ne_eqb}
use Rattle.std.proofs.Math.Bool.{true, false}
use mathlib.Core.List.{List, [], ◌∷◌, ◌++◌}
use Rattle.std.proofs.Math.ListN.{length}
use Rattle.std.proofs.lemmas.List.{length-replicate}
use Rattle.rules.specs.Basics.{pick, zeros, most_jobs, most_bytes}
use Rattle.rules.specs.declared.OrderRead.{OrderRead}
use Rattle.rules.specs.declared.Planned.{Planned}
use Rattle.rules.specs.declared.Refusal.{Refusal}
use Rattle.rules.specs.declared.Refusal.TheVariants.{NoPlan, ShortBuffer, LongFile, BadBoards, BadLists, OutOfRange}
use Rattle.refusals.specs.declared.Fault.{Fault}
use Rattle.refusals.specs.Numbers.{number_above}
use Rattle.grammar.specs.declared.Order.{Order}
use Rattle.grammar.specs.Turns.{said_of}
use Rattle.planner.specs.Said.{planned_of}
use Rattle.rules.specs.Refusals.{number_of}
use Rattle.rules.specs.Plans.{Row, jobs, rows_of, numbers_of, preemptions}
use Rattle.rules.specs.Orders.{ReadAnswer, read_answer, refused_read, after_reading, order_of, Outcome, refused, accepted}
use Rattle.rules.specs.Planning.{PlanAnswer, plan_answer, refused_plan, after_placing, placing, Placing, placed, unplaced, bad_boards, bad_lists, first_out}
use Rattle.rules.specs.Listings.{listing, order_lines, plan_lines, refused_line}
use Rattle.laws.specs.Stores.{stored}
use Rattle.laws.specs.Tests.{pick_yes, pick_no, or_no}
use Rattle.laws.specs.Rows.{length_rows_of}
use Rattle.theory.specs.DueOrder.{length-jobs}
use Rattle.theory.proofs.Answers.{rows_of_numbers_of, length-numbers_of}
use Rattle.lines.specs.Digits.{Put}
use Rattle.lines.specs.Fields.{planned}

-- What is left in the buffer where these are the lines: the lines and their end, or nothing is put, and they are the line of
-- the refusal.
abbrev pub Lists : List ℕ → List ℕ → Result ℕ Fault → List ℕ → Type 0
Lists wanted lines (Ok end) later = Put lines 0 wanted later end
Lists wanted lines (Err fault) later = (wanted ≡ refused_line (number_of fault.refusal) fault.place) × (later ≡ lines)

-- room for 2,000 rows of four numbers of ten digits, and a first line
abbrev pub room : ℕ
room = 90000

unfoldable pub listed_length : List ℕ → List ℕ → ℕ
listed_length file lines = pick (ltb (length lines) room) 0 (length (listing file))

unfoldable pub listed_lines : List ℕ → List ℕ → List ℕ
listed_lines file lines = pick (ltb (length lines) room) lines (stored lines 0 (listing file))

pub short_left : (file lines : List ℕ) → length lines < room → (0 ≡ listed_length file lines) × (lines ≡ listed_lines file lines)
unfolding listed_length listed_lines
short_left file lines h = (sym (pick_yes (ltb (length lines) room) 0 (length (listing file)) (lt-ltb (length lines) room h)), sym (pick_yes (ltb (length lines) room) lines (stored lines 0 (listing file)) (lt-ltb (length lines) room h)))

pub listed : (file lines later : List ℕ) (r : ℕ) → room ≤ length lines → Put lines 0 (listing file) later r → (r ≡ listed_length file lines) × (later ≡ listed_lines file lines)
unfolding listed_length listed_lines
listed file lines later r h p =
    let n = le-ltb (length lines) room h in
    (p.ends ∙ omega arith ∙ sym (pick_no (ltb (length lines) room) 0 (length (listing file)) n), p.holds ∙ sym (pick_no (ltb (length lines) room) lines (stored lines 0 (listing file)) n))

-- a fact of both is a fact of whichever is picked
both : {A : Type 0} (P : A → Type 0) (b : Bool) (x y : A) → P x → P y → P (pick b x y)
both P true x y p q = p
both P false x y p q = q

-- ---- the day

within_placed : (p : Placing) (table : List ℕ) → 4 * (after_placing p table).said.rows ≤ length (after_placing p table).table
unfolding after_placing refused_plan
within_placed (unplaced number) table = omega arith
within_placed (placed rows) table = omega (arith, length-append (numbers_of rows) (zeros (length table - 4 * length rows)), length-numbers_of rows)

-- the rows stand within the table
pub rows_within : (m : ℕ) (works dues table : List ℕ) → 4 * (plan_answer m works dues table).said.rows ≤ length (plan_answer m works dues table).table
unfolding plan_answer refused_plan
rows_within m works dues table =
    both Within (bad_boards m) _ _ (omega arith)
    (both Within (bad_lists works dues) _ _ (omega arith)
    (both Within (ltb (length table) (8 * length works)) _ _ (omega arith)
    (both Within (ltb 0 (first_out works dues)) _ _ (omega arith) (placing_within (placing m works dues)))))
  where
    Within : PlanAnswer → Type 0
    Within a = 4 * a.said.rows ≤ length a.table

    placing_within : (p : Placing) → Within (after_placing p table)
    placing_within p = within_placed p table

-- ---- lines do not depend on what the table held

module _ (boards : ℕ) (works dues : List ℕ) where
  abbrev lines_of : PlanAnswer → List ℕ
  lines_of a = plan_lines boards works dues a

  pub refusal_lines : (a : PlanAnswer) → (a.said.refusal ≡ 0 → ⊥) → lines_of a ≡ refused_line a.said.refusal a.said.place
  unfolding plan_lines
  refusal_lines a h = pick_no (eqb a.said.refusal 0) _ _ (ne_eqb a.said.refusal 0 h)

  pub plan_lines_lem : (a : PlanAnswer) → a.said.refusal ≡ 0 → lines_of a ≡ planned (boards ∷ length (jobs works dues) ∷ length (rows_of a.said.rows a.table) ∷ preemptions (rows_of a.said.rows a.table) (jobs works dues) ∷ []) (rows_of a.said.rows a.table)
  unfolding plan_lines planned
  plan_lines_lem a h = pick_yes (eqb a.said.refusal 0) _ _ (eq-eqb a.said.refusal 0 h)

  -- the lines of what was placed
  placing_lines : Placing → List ℕ
  placing_lines (unplaced number) = refused_line (number_of NoPlan) number
  placing_lines (placed rows) = planned (boards ∷ length (jobs works dues) ∷ length rows ∷ preemptions rows (jobs works dues) ∷ []) rows

  refused_lines : (r : Refusal) (place : ℕ) (table : List ℕ) → (number_of r ≡ 0 → ⊥) → lines_of (refused_plan r place table) ≡ refused_line (number_of r) place
  unfolding refused_plan
  refused_lines r place table h = refusal_lines (refused_plan r place table) h

  placed_lines : (p : Placing) (table : List ℕ) → lines_of (after_placing p table) ≡ placing_lines p
  unfolding after_placing placing_lines refused_plan number_of
  placed_lines (unplaced number) table = refused_lines NoPlan number (zeros (length table)) (λ e. omega arith)
  placed_lines (placed rows) table =
      plan_lines_lem (after_placing (placed rows) table) refl
      ∙ ap (λ (rs : List Row). planned (boards ∷ length (jobs works dues) ∷ length rs ∷ preemptions rs (jobs works dues) ∷ []) rs)
      (rows_of_numbers_of rows (zeros (length table - 4 * length rows)))

  -- the lines of a day, whatever the table
  day_lines : List ℕ
  day_lines =
      pick (bad_boards boards) (refused_line (number_of BadBoards) 0)
      (pick (bad_lists works dues) (refused_line (number_of BadLists) 0)
      (pick (ltb 0 (first_out works dues)) (refused_line (number_of OutOfRange) (first_out works dues)) (placing_lines (placing boards works dues))))

  answer_lines : (table : List ℕ) → 8 * length works ≤ length table → lines_of (plan_answer boards works dues table) ≡ day_lines
  unfolding plan_answer day_lines number_of
  answer_lines table h =
      push (bad_boards boards) _ _ _ _ (refused_lines BadBoards 0 table (λ e. omega arith))
      (push (bad_lists works dues) _ _ _ _ (refused_lines BadLists 0 table (λ e. omega arith))
      (ap lines_of (pick_no (ltb (length table) (8 * length works)) _ _ (le-ltb (length table) (8 * length works) h))
      ∙ push (ltb 0 (first_out works dues)) _ _ _ _ (refused_lines OutOfRange (first_out works dues) table (λ e. omega arith)) (placed_lines (placing boards works dues) table)))
    where
      push : (b : Bool) (x y : PlanAnswer) (u v : List ℕ) → lines_of x ≡ u → lines_of y ≡ v → lines_of (pick b x y) ≡ pick b u v
      push true x y u v p q = p
      push false x y u v p q = q

  pub same_lines : (table : List ℕ) → 8 * length works ≤ length table → lines_of (plan_answer boards works dues table) ≡ plan_lines boards works dues (plan_answer boards works dues (zeros (8 * length works)))
  same_lines table h = answer_lines table h ∙ sym (answer_lines (zeros (8 * length works)) (omega (arith, length-replicate {A = ℕ} (8 * length works) 0)))

-- ---- lines do not depend on what the lists held

read_lines : (file : List ℕ) (r : Refusal) (w d : List ℕ) → (number_of r ≡ 0 → ⊥) → order_lines (refused_read r 0 w d) ≡ refused_line (number_of r) 0
unfolding order_lines refused_read
read_lines file r w d h = pick_no (eqb (number_of r) 0) _ _ (ne_eqb (number_of r) 0 h)

outcome_same : (o : Outcome) (w d w' d' : List ℕ) → length w ≡ length w' → length d ≡ length d' → after_reading o w d ≡ after_reading o w' d'
unfolding after_reading
outcome_same (refused r p) w d w' d' e f = ap₂ (λ (x y : ℕ). refused_read r p (zeros x) (zeros y)) e f
outcome_same (accepted b ws ds) w d w' d' e f = ap₂ (λ (x y : ℕ). record { said = record { refusal = 0; place = 0; boards = b; jobs = length ws }; work = ws ++ zeros (x - length ws); due = ds ++ zeros (y - length ds) }) e f

-- whatever the two lists of 1,000 held, the lines are the listing's
pub read_same : (file w d : List ℕ) → length w ≡ 1000 → length d ≡ 1000 → order_lines (read_answer file w d) ≡ listing file
unfolding read_answer listing number_of
read_same file w d e f =
    let z = zeros 1000 in
    let l : length z ≡ 1000 = length-replicate {A = ℕ} 1000 0 in
    ap order_lines (not_short w d e f)
    ∙ long_or (ltb 65536 (length file))
    ∙ ap order_lines (sym (not_short z z l l))
  where
    rest : List ℕ → List ℕ → ReadAnswer
    rest w d = pick (ltb most_bytes (length file)) (refused_read LongFile 0 w d) (after_reading (order_of file) w d)

    not_short : (w d : List ℕ) → length w ≡ 1000 → length d ≡ 1000 → pick (ltb (length w) most_jobs || ltb (length d) most_jobs) (refused_read ShortBuffer 0 w d) (rest w d) ≡ rest w d
    not_short w d e f = pick_no (ltb (length w) most_jobs || ltb (length d) most_jobs) (refused_read ShortBuffer 0 w d) (rest w d) (or_no (ltb (length w) most_jobs) (ltb (length d) most_jobs) (le-ltb (length w) most_jobs (omega arith)) (le-ltb (length d) most_jobs (omega arith)))

    long_or : (b : Bool) → order_lines (pick b (refused_read LongFile 0 w d) (after_reading (order_of file) w d)) ≡ order_lines (pick b (refused_read LongFile 0 (zeros 1000) (zeros 1000)) (after_reading (order_of file) (zeros 1000) (zeros 1000)))
    long_or true = read_lines file LongFile w d (λ h. omega arith) ∙ sym (read_lines file LongFile (zeros 1000) (zeros 1000) (λ h. omega arith))
    long_or false = ap order_lines (outcome_same (order_of file) w d (zeros 1000) (zeros 1000) (e ∙ sym (length-replicate {A = ℕ} 1000 0)) (f ∙ sym (length-replicate {A = ℕ} 1000 0)))

-- the lines of an order that is refused, and of one that was read
pub order_refused : (a : ReadAnswer) → (a.said.refusal ≡ 0 → ⊥) → order_lines a ≡ refused_line a.said.refusal a.said.place
unfolding order_lines
order_refused a h = pick_no (eqb a.said.refusal 0) _ _ (ne_eqb a.said.refusal 0 h)

pub order_read : (a : ReadAnswer) → a.said.refusal ≡ 0 → order_lines a ≡ plan_lines a.said.boards (take a.said.jobs a.work) (take a.said.jobs a.due) (plan_answer a.said.boards (take a.said.jobs a.work) (take a.said.jobs a.due) (zeros (8 * length (take a.said.jobs a.work))))
unfolding order_lines
order_read a h = pick_yes (eqb a.said.refusal 0) _ _ (eq-eqb a.said.refusal 0 h)

-- ---- what the code has, and the lines that it puts

pub rows_said : (m : ℕ) (works dues table : List ℕ) (count : ℕ) (later : List ℕ) → planned_of (Ok count) ≡ (plan_answer m works dues table).said → later ≡ (plan_answer m works dues table).table → 4 * count ≤ length later
rows_said m works dues table count later p q = rw (ap (λ (x : Planned). x.rows) p, q) (rows_within m works dues table)

abbrev pub day : ℕ → List ℕ → List ℕ → List ℕ
day boards works dues = plan_lines boards works dues (plan_answer boards works dues (zeros (8 * length works)))

pub day_refused : (boards : ℕ) (works dues table lines : List ℕ) (fault : Fault) → 8 * length works ≤ length table → planned_of (Err fault) ≡ (plan_answer boards works dues table).said → Lists (day boards works dues) lines (Err fault) lines
day_refused boards works dues table lines fault h e =
    let a = plan_answer boards works dues table in
    let n : a.said.refusal ≡ number_of fault.refusal = sym (ap (λ (x : Planned). x.refusal) e) in
    let same : day boards works dues ≡ refused_line (number_of fault.refusal) fault.place =
    sym (same_lines boards works dues table h)
    ∙ refusal_lines boards works dues a (λ z. number_above fault.refusal (sym n ∙ z))
    ∙ sym (ap (λ (x : Planned). refused_line x.refusal x.place) e) in
    (same, refl)

pub day_planned : (boards : ℕ) (works dues table : List ℕ) (count : ℕ) (full : List ℕ) (lines later : List ℕ) (r : ℕ) → length works ≡ length dues → 8 * length works ≤ length table → planned_of (Ok count) ≡ (plan_answer boards works dues table).said → full ≡ (plan_answer boards works dues table).table → Put lines 0 (planned (boards ∷ length works ∷ count ∷ (count - length works) ∷ []) (rows_of count full)) later r → Lists (day boards works dues) lines (Ok r) later
unfolding preemptions
day_planned boards works dues table count full lines later r eq h e f p =
    let rows = rows_of count full in
    let n : length rows ≡ count = length_rows_of count full in
    let j : length (jobs works dues) ≡ length works = length-jobs works dues eq in
    let same : planned (boards ∷ length works ∷ count ∷ (count - length works) ∷ []) rows ≡ day boards works dues =
    ap₂ (λ (x y : ℕ). planned (boards ∷ x ∷ y ∷ (y - x) ∷ []) rows) (sym j) (sym n)
    ∙ ap₂ (λ (x : Planned) (t : List ℕ). planned (boards ∷ length (jobs works dues) ∷ length (rows_of x.rows t) ∷ preemptions (rows_of x.rows t) (jobs works dues) ∷ []) (rows_of x.rows t)) e f
    ∙ sym (plan_lines_lem boards works dues (plan_answer boards works dues table) (ap (λ (x : Planned). x.refusal) (sym e)))
    ∙ same_lines boards works dues table h in
    subst (λ (v : List ℕ). Put lines 0 v later r) same p

outcome_within : (o : Outcome) (w d : List ℕ) → (after_reading o w d).said.jobs ≤ length (after_reading o w d).work
unfolding after_reading refused_read
outcome_within (refused r p) w d = omega arith
outcome_within (accepted b ws ds) w d = omega (arith, length-append ws (zeros (length w - length ws)))

jobs_within : (file w d : List ℕ) → (read_answer file w d).said.jobs ≤ length (read_answer file w d).work
unfolding read_answer refused_read
jobs_within file w d =
    both Within (ltb (length w) most_jobs || ltb (length d) most_jobs) _ _ (omega arith)
    (both Within (ltb most_bytes (length file)) _ _ (omega arith) (outcome_within (order_of file) w d))
  where
    Within : ReadAnswer → Type 0
    Within a = a.said.jobs ≤ length a.work

pub jobs_said : (file w d : List ℕ) (order : Order) (work : List ℕ) → said_of (Ok order) ≡ (read_answer file w d).said → work ≡ (read_answer file w d).work → order.jobs ≤ length work
unfolding said_of
jobs_said file w d order work p q = rw (ap (λ (x : OrderRead). x.jobs) p, q) (jobs_within file w d)

abbrev day_of : OrderRead → List ℕ → List ℕ → List ℕ
day_of said work due = day said.boards (take said.jobs work) (take said.jobs due)

pub file_refused : (file w d lines : List ℕ) (fault : Fault) → length w ≡ 1000 → length d ≡ 1000 → said_of (Err fault) ≡ (read_answer file w d).said → Lists (listing file) lines (Err fault) lines
unfolding said_of
file_refused file w d lines fault lw ld e =
    let a = read_answer file w d in
    let n : a.said.refusal ≡ number_of fault.refusal = sym (ap (λ (x : OrderRead). x.refusal) e) in
    let same : listing file ≡ refused_line (number_of fault.refusal) fault.place =
    sym (read_same file w d lw ld)
    ∙ order_refused a (λ z. number_above fault.refusal (sym n ∙ z))
    ∙ sym (ap (λ (x : OrderRead). refused_line x.refusal x.place) e) in
    (same, refl)

pub file_read : (file w d lines later : List ℕ) (order : Order) (work due : List ℕ) (result : Result ℕ Fault) → length w ≡ 1000 → length d ≡ 1000 → said_of (Ok order) ≡ (read_answer file w d).said → work ≡ (read_answer file w d).work → due ≡ (read_answer file w d).due → Lists (day order.boards (take order.jobs work) (take order.jobs due)) lines result later → Lists (listing file) lines result later
unfolding said_of
file_read file w d lines later order work due result lw ld e f g p =
    let a = read_answer file w d in
    let same : day order.boards (take order.jobs work) (take order.jobs due) ≡ listing file =
    ap (λ (x : OrderRead). day_of x work due) e
    ∙ ap₂ (λ (x y : List ℕ). day_of a.said x y) f g
    ∙ sym (order_read a (sym (ap (λ (x : OrderRead). x.refusal) e)))
    ∙ read_same file w d lw ld in
    subst (λ (v : List ℕ). Lists v lines result later) same p

-- the refusal's line is put where nothing was
pub listed_fault : (file lines lent later : List ℕ) (fault : Fault) (n place r : ℕ) → room ≤ length lines → Lists (listing file) lines (Err fault) lent → n ≡ number_of fault.refusal → place ≡ fault.place → Put lent 0 (refused_line n place) later r → (r ≡ listed_length file lines) × (later ≡ listed_lines file lines)
listed_fault file lines lent later fault n place r h (same, kept) e f p =
    listed file lines later r h
    (subst (λ (v : List ℕ). Put lines 0 v later r) (ap₂ refused_line e f ∙ sym same)
    (subst (λ (v : List ℕ). Put v 0 (refused_line n place) later r) kept p))

-- what was put ends within the buffer, since the buffer is as long as it was
pub put_within : (lines later v : List ℕ) (r : ℕ) → length later ≡ length lines → Put lines 0 v later r → r ≤ length lines
unfolding stored
put_within lines later v r e p =
    omega (arith, p.ends, ap length p.holds, length-append v (drop (0 + length v) lines), length-drop (0 + length v) lines)
