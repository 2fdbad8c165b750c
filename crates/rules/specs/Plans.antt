-- What a plan is (004): as a statement about rows, and as a test that computes.
use Rattle.std.specs.Prelude.{◌≡◌, Bool, not, ◌&&◌, ◌||◌, List, [], ◌∷◌, ◌⊎◌, ℕ, zero, suc, ◌+◌, ◌-◌, ◌≤◌, ◌<◌, get_or, drop, length, leb, ltb, eqb}
use Rattle.rules.specs.Basics.{pick, All, Some, Pairs, every, some, every_pair, within}

-- A job of the lists: "Jobs are numbered from 1 as they appear".
pub record Job : Type 0 where
  pub number : ℕ
  pub work : ℕ
  pub due : ℕ

unfoldable pub jobs_from : ℕ → List ℕ → List ℕ → List Job
jobs_from number [] dues = []
jobs_from number (w ∷ works) [] = []
jobs_from number (w ∷ works) (d ∷ dues) = record { number = number; work = w; due = d } ∷ jobs_from (suc number) works dues

unfoldable pub jobs : List ℕ → List ℕ → List Job
jobs works dues = jobs_from 1 works dues

-- "A row is board, job, from, to"
pub record Row : Type 0 where
  pub board : ℕ
  pub job : ℕ
  pub from : ℕ
  pub to : ℕ

-- rows as a table has them, "four numbers each"
unfoldable pub numbers_of : List Row → List ℕ
numbers_of [] = []
numbers_of (r ∷ rows) = r.board ∷ r.job ∷ r.from ∷ r.to ∷ numbers_of rows

unfoldable pub first_row : List ℕ → Row
first_row table = record { board = get_or table 0 0; job = get_or table 1 0; from = get_or table 2 0; to = get_or table 3 0 }

unfoldable pub rows_of : ℕ → List ℕ → List Row
rows_of zero table = []
rows_of (suc count) table = first_row table ∷ rows_of count (drop 4 table)

-- "Touching rows don't overlap"
abbrev pub Apart : Row → Row → Type 0
Apart r s = (r.to ≤ s.from) ⊎ (s.to ≤ r.from)

-- the row is one of the job's, and ends by its due minute
abbrev pub Serves : Row → Job → Type 0
Serves r j = (r.job ≡ j.number) × (r.to ≤ j.due)

-- the lengths of a job's rows, added up
unfoldable pub minutes_of : ℕ → List Row → ℕ
minutes_of number [] = 0
minutes_of number (r ∷ rows) = pick (eqb r.job number) (r.to - r.from) 0 + minutes_of number rows

-- "Rows in any order form a plan when: each board is 1 to m and each job 1 to n; from < to ≤ the job's due minute; rows on
-- one board don't overlap; rows of one job don't overlap; each job's lengths add up to its work exactly."
-- Of a list of jobs, so that it also says what a plan for some of the jobs is.
pub record Plan (m : ℕ) (js : List Job) (rows : List Row) : Type 0 where
  pub boards : All (λ r. (1 ≤ r.board) × (r.board ≤ m)) rows
  pub minutes : All (λ r. r.from < r.to) rows
  pub served : All (λ r. Some (Serves r) js) rows
  pub boards_apart : Pairs (λ r s. r.board ≡ s.board → Apart r s) rows
  pub jobs_apart : Pairs (λ r s. r.job ≡ s.job → Apart r s) rows
  pub exact : All (λ j. minutes_of j.number rows ≡ j.work) js

-- the same as a test
unfoldable pub apart : Row → Row → Bool
apart r s = leb r.to s.from || leb s.to r.from

unfoldable pub serves : Row → Job → Bool
serves r j = eqb r.job j.number && leb r.to j.due

unfoldable pub row_good : ℕ → List Job → Row → Bool
row_good m js r = within 1 m r.board && (ltb r.from r.to && some (serves r) js)

unfoldable pub pair_good : Row → Row → Bool
pair_good r s = not (eqb r.board s.board || eqb r.job s.job) || apart r s

unfoldable pub is_plan : ℕ → List Job → List Row → Bool
is_plan m js rows =
    every (row_good m js) rows && (every_pair pair_good rows && every (λ j. eqb (minutes_of j.number rows) j.work) js)

-- "rows minus jobs"
unfoldable pub preemptions : List Row → List Job → ℕ
preemptions rows js = length rows - length js
