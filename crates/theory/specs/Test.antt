-- The test `is_plan` says yes exactly to the plans: each part of the test is taken to its part of the statement, and back.
use Rattle.std.specs.Prelude.{◌≡◌, Bool, true, false, not, ◌&&◌, ◌||◌, List, ℕ, ◌≤◌, ◌<◌, leb, ltb, eqb}
use Rattle.std.proofs.Common.{ap, inl, inr, leb-true, le-leb, ltb-true, lt-ltb, eqb-true, eq-eqb}
use Rattle.std.proofs.lemmas.Bool.{eqb-false, not-true}
use Rattle.rules.specs.Basics.{All, Some, Pairs, every, some, every_pair, within}
use Rattle.rules.specs.Plans.{Row, Job, Plan, Apart, Serves, minutes_of, apart, serves, row_good, pair_good, is_plan}
use Rattle.laws.specs.Tests.{decided, and_yes, and_left, and_right, or_left, or_right, or_no, or_cases, or_no_left, or_no_right, within_yes, within_low, within_high, every_all, all_every, some_one, one_some, every_pair_pairs, pairs_every_pair, map_all}
use Rattle.theory.specs.Lists.{all_and, map_pairs, pairs_and}

-- two rows apart; a row that serves a job

pub apart_yes : (r s : Row) → Apart r s → apart r s ≡ true
unfolding apart
apart_yes r s (inl h) = or_left (leb r.to s.from) (leb s.to r.from) (le-leb r.to s.from h)
apart_yes r s (inr h) = or_right (leb r.to s.from) (leb s.to r.from) (le-leb s.to r.from h)

pub yes_apart : (r s : Row) → apart r s ≡ true → Apart r s
unfolding apart
yes_apart r s e =
    elim (or_cases (leb r.to s.from) (leb s.to r.from) e) [
      | inl h ↦ inl (leb-true r.to s.from h)
      | inr h ↦ inr (leb-true s.to r.from h)
    ]

pub serves_yes : (r : Row) (j : Job) → Serves r j → serves r j ≡ true
unfolding serves
serves_yes r j s = and_yes (eqb r.job j.number) (leb r.to j.due) (eq-eqb r.job j.number s.0) (le-leb r.to j.due s.1)

pub yes_serves : (r : Row) (j : Job) → serves r j ≡ true → Serves r j
unfolding serves
yes_serves r j e = (
  eqb-true r.job j.number (and_left (eqb r.job j.number) (leb r.to j.due) e),
  leb-true r.to j.due (and_right (eqb r.job j.number) (leb r.to j.due) e),
)

-- what is asked of a row alone

pub record RowGood (m : ℕ) (js : List Job) (r : Row) : Type 0 where
  pub board : (1 ≤ r.board) × (r.board ≤ m)
  pub minutes : r.from < r.to
  pub served : Some (Serves r) js

pub row_good_yes : (m : ℕ) (js : List Job) (r : Row) → RowGood m js r → row_good m js r ≡ true
unfolding row_good
row_good_yes m js r g =
    and_yes (within 1 m r.board) (ltb r.from r.to && some (serves r) js) (within_yes 1 m r.board g.board.0 g.board.1)
    (and_yes (ltb r.from r.to) (some (serves r) js) (lt-ltb r.from r.to g.minutes) (one_some (serves r) (Serves r) (serves_yes r) js g.served))

pub yes_row_good : (m : ℕ) (js : List Job) (r : Row) → row_good m js r ≡ true → RowGood m js r
unfolding row_good
yes_row_good m js r e =
    let own : within 1 m r.board ≡ true = and_left (within 1 m r.board) (ltb r.from r.to && some (serves r) js) e in
    let rest : (ltb r.from r.to && some (serves r) js) ≡ true = and_right (within 1 m r.board) (ltb r.from r.to && some (serves r) js) e in
    record {
      board = (within_low 1 m r.board own, within_high 1 m r.board own);
      minutes = ltb-true r.from r.to (and_left (ltb r.from r.to) (some (serves r) js) rest);
      served = some_one (serves r) (Serves r) (yes_serves r) js (and_right (ltb r.from r.to) (some (serves r) js) rest);
    }

-- what is asked of two rows

pub record PairGood (r s : Row) : Type 0 where
  pub board : r.board ≡ s.board → Apart r s
  pub job : r.job ≡ s.job → Apart r s

pub yes_pair_good : (r s : Row) → pair_good r s ≡ true → PairGood r s
unfolding pair_good
yes_pair_good r s e =
    let met = eqb r.board s.board || eqb r.job s.job in
    elim (or_cases (not met) (apart r s) e) [
      | inl h ↦
          let away : met ≡ false = not-true met h in
          record {
            board = λ q. absurd (eqb-false r.board s.board (or_no_left (eqb r.board s.board) (eqb r.job s.job) away) q);
            job = λ q. absurd (eqb-false r.job s.job (or_no_right (eqb r.board s.board) (eqb r.job s.job) away) q);
          }
      | inr h ↦ record { board = λ q. yes_apart r s h; job = λ q. yes_apart r s h }
    ]

pub pair_good_yes : (r s : Row) → PairGood r s → pair_good r s ≡ true
unfolding pair_good
pair_good_yes r s g =
    elim (decided (eqb r.board s.board)) [
      | inl b ↦ or_right (not met) (apart r s) (apart_yes r s (g.board (eqb-true r.board s.board b)))
      | inr b ↦
          elim (decided (eqb r.job s.job)) [
            | inl k ↦ or_right (not met) (apart r s) (apart_yes r s (g.job (eqb-true r.job s.job k)))
            | inr k ↦ or_left (not met) (apart r s) (ap not (or_no (eqb r.board s.board) (eqb r.job s.job) b k))
          ]
    ]
  where
    met : Bool
    met = eqb r.board s.board || eqb r.job s.job

-- the whole test

abbrev OnBoard : Row → Row → Type 0
OnBoard r s = r.board ≡ s.board → Apart r s

abbrev OfJob : Row → Row → Type 0
OfJob r s = r.job ≡ s.job → Apart r s

pub is_plan_plan : (m : ℕ) (js : List Job) (rows : List Row) → is_plan m js rows ≡ true → Plan m js rows
unfolding is_plan
is_plan_plan m js rows e =
    let singly = every (row_good m js) rows in
    let twos = every_pair pair_good rows in
    let works = every (λ (j : Job). eqb (minutes_of j.number rows) j.work) js in
    let alone : All (RowGood m js) rows = every_all (row_good m js) (RowGood m js) (yes_row_good m js) rows (and_left singly (twos && works) e) in
    let pairs : Pairs PairGood rows = every_pair_pairs pair_good PairGood yes_pair_good rows (and_left twos works (and_right singly (twos && works) e)) in
    record {
      boards = map_all (RowGood m js) (λ r. (1 ≤ r.board) × (r.board ≤ m)) (λ r g. g.board) rows alone;
      minutes = map_all (RowGood m js) (λ r. r.from < r.to) (λ r g. g.minutes) rows alone;
      served = map_all (RowGood m js) (λ r. Some (Serves r) js) (λ r g. g.served) rows alone;
      boards_apart = map_pairs PairGood OnBoard (λ r s g. g.board) rows pairs;
      jobs_apart = map_pairs PairGood OfJob (λ r s g. g.job) rows pairs;
      exact = every_all (λ (j : Job). eqb (minutes_of j.number rows) j.work) (λ j. minutes_of j.number rows ≡ j.work)
          (λ j q. eqb-true (minutes_of j.number rows) j.work q) js (and_right twos works (and_right singly (twos && works) e));
    }

pub plan_is_plan : (m : ℕ) (js : List Job) (rows : List Row) → Plan m js rows → is_plan m js rows ≡ true
unfolding is_plan
plan_is_plan m js rows p =
    let singly = every (row_good m js) rows in
    let twos = every_pair pair_good rows in
    let works = every (λ (j : Job). eqb (minutes_of j.number rows) j.work) js in
    and_yes singly (twos && works) (all_every (row_good m js) (RowGood m js) (row_good_yes m js) rows alone)
    (and_yes twos works (pairs_every_pair pair_good PairGood pair_good_yes rows pairs)
    (all_every (λ (j : Job). eqb (minutes_of j.number rows) j.work) (λ j. minutes_of j.number rows ≡ j.work)
    (λ j q. eq-eqb (minutes_of j.number rows) j.work q) js p.exact))
  where
    alone : All (RowGood m js) rows
    alone =
        all_and (λ r. (1 ≤ r.board) × (r.board ≤ m)) (λ r. (r.from < r.to) × Some (Serves r) js) (RowGood m js)
        (λ r b h. record { board = b; minutes = h.0; served = h.1 }) rows p.boards
        (all_and (λ r. r.from < r.to) (λ r. Some (Serves r) js) (λ r. (r.from < r.to) × Some (Serves r) js) (λ r a b. (a, b)) rows p.minutes p.served)

    pairs : Pairs PairGood rows
    pairs = pairs_and OnBoard OfJob PairGood (λ r s b k. record { board = b; job = k }) rows p.boards_apart p.jobs_apart
