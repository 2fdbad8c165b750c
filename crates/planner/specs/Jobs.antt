-- The loop over the jobs: placing those left, behind the rows so far, gives what placing all gives.
use Rattle.std.specs.Prelude.{◌≡◌, refl, Bool, true, false, Option, None, Some, Result, Ok, Err, List, [], ◌∷◌, ◌++◌, map, ℕ, suc, ◌+◌, ◌*◌, ◌-◌, ◌≤◌, ◌<◌, length, take, drop, get_or}
use Rattle.std.proofs.Common.{sym, ◌∙◌, ap, add-one, arith, drop_of_length-le, drop-cons, length-append}
use Rattle.std.proofs.lemmas.List.{length-map, map-append, get_or-map}
use borrow.Rule.Slice.PartMut.{put_mid}
use Rattle.rules.specs.declared.Refusal.TheVariants.{NoPlan}
use Rattle.refusals.specs.declared.Fault.{Fault}
use Rattle.rules.specs.Basics.{pick, is_empty, most_boards, most_jobs}
use Rattle.rules.specs.declared.Spot.{Spot}
use Rattle.rules.specs.Plans.{Job, Row, numbers_of}
use Rattle.rules.specs.Planning.{Put, cannot, put, one_row, two_rows, place_last, place_other, Placing, unplaced, placed, after_put, place_all}
use Rattle.ordering.specs.Records.{job_in}
use Rattle.placing.specs.Rows.{with_rows, count_of, free_after, table_after, Wrote}
use Rattle.placing.specs.Lent.{rows_behind}

-- jobs and boards are within their limits, and the table has 8 numbers for each job
pub record Enough (records free table : List ℕ) : Type 0 where
  pub jobs : length records ≤ most_jobs
  pub some : 0 < length free
  pub few : length free ≤ most_boards
  pub space : 8 * length records ≤ length table

-- the rows at the table's front, or 9 for the job that was being placed
abbrev pub Told : Placing → List ℕ → Result ℕ Fault → List ℕ → Type 0
Told (unplaced number) table result table' = result ≡ Err (record { refusal = NoPlan; place = number })
Told (placed rows) table result table' = (result ≡ Ok (length rows)) × (table' ≡ with_rows rows table)

abbrev rows_put : Put → List Row
rows_put cannot = []
rows_put (put later new) = new

-- a job gets two rows at most
record Few (p : Put) : Type 0 where
  few : length (rows_put p) ≤ 2

few_pick : (b : Bool) (p q : Put) → Few p → Few q → Few (pick b p q)
few_pick true p q f g = f
few_pick false p q f g = g

few_one : (free : List ℕ) (j : Job) (board : ℕ) → Few (one_row free j board)
unfolding one_row
few_one free j board = record { few = omega arith }

few_none : Few cannot
few_none = record { few = omega arith }

few_pair : (later : List ℕ) (r s : Row) → Few (put later (r ∷ s ∷ []))
few_pair later r s = record { few = omega arith }

few_two : (free : List ℕ) (j : Job) (a b : Spot) → Few (two_rows free j a b)
unfolding two_rows
few_two free j a b = few_pick _ _ _ (few_one free j a.board) (few_pair _ _ _)

few_last : (free : List ℕ) (j : Job) → Few (place_last free j)
unfolding place_last
few_last free j = few_pick _ _ _ few_none (few_one free j _)

few_other : (free : List ℕ) (j : Job) → Few (place_other free j)
unfolding place_other
few_other free j = few_pick _ _ _ few_none (few_pick _ _ _ (few_one free j _) (few_two free j _ _))

-- step 1 for the last job, the other steps for the others
abbrev pub put_next : List ℕ → Job → List Job → Put
put_next free j left = pick (is_empty left) (place_last free j) (place_other free j)

few_next : (free : List ℕ) (j : Job) (left : List Job) → Few (put_next free j left)
few_next free j left = few_pick (is_empty left) _ _ (few_last free j) (few_other free j)

-- Behind the rows so far, `count` of them, the jobs left are to be placed: the table begins with these rows, holds two rows
-- more for each job left, and the whole comes to `p`.
pub record SoFar (p : Placing) (first free table : List ℕ) (count : ℕ) (left : List Job) : Type 0 where
  pub rows : List Row
  pub counted : count ≡ length rows
  pub some : 0 < length free
  pub few : length free ≤ most_boards
  pub bounded : count + 2 * length left ≤ 2 * most_jobs
  pub space : 4 * count + 8 * length left ≤ length first
  pub front : table ≡ with_rows rows first
  pub whole : place_all rows free left ≡ p

pub no_jobs : (records start first : List ℕ) → length records ≡ 0 → Told (place_all [] start (map job_in records)) first (Ok 0) first
unfolding place_all numbers_of
no_jobs [] start first e = (refl, refl)
no_jobs (r ∷ records) start first e = absurd (omega arith)

-- the jobs of the records from index i on, the last one behind them
abbrev pub left_from : List ℕ → ℕ → ℕ → List Job
left_from others last i = drop i (map job_in others) ++ job_in last ∷ []

pub so_far_start : (records start first others : List ℕ) (last : ℕ) → Enough records start first → records ≡ others ++ last ∷ [] →
    SoFar (place_all [] start (map job_in records)) first start first 0 (left_from others last 0)
unfolding numbers_of
so_far_start records start first others last enough e =
    let all : map job_in records ≡ left_from others last 0 = ap (map job_in) e ∙ map-append job_in others (last ∷ []) in
    let long : length records ≡ length (left_from others last 0) = sym (length-map records job_in) ∙ ap length all in
    record {
      rows = [];
      counted = refl;
      some = enough.some;
      few = enough.few;
      bounded = omega (arith, enough.jobs);
      space = omega (arith, enough.space);
      front = refl;
      whole = ap (place_all [] start) (sym all);
    }

module _ (p : Placing) (first free table : List ℕ) (count : ℕ) where
  pub told_end : SoFar p first free table count [] → Told p first (Ok count) table
  unfolding place_all
  told_end s = rw (← s.whole) (ap Ok s.counted, s.front)

  module _ (j : Job) (left : List Job) (s : SoFar p first free table count (j ∷ left)) where
    next : after_put j.number (put_next free j left) (λ later new. place_all (s.rows ++ new) later left) ≡ p
    unfolding place_all
    next = s.whole

    told_none : (q : Put) → after_put j.number q (λ later new. place_all (s.rows ++ new) later left) ≡ p →
        (part free' rest : List ℕ) → Wrote q free part None free' rest → (f : Fault) → f ≡ record { refusal = NoPlan; place = j.number } →
        (table' : List ℕ) → Told p first (Err f) table'
    unfolding after_put count_of
    told_none cannot e part free' rest w f told table' = rw (← e) (ap Err told)
    told_none (put later new) e part free' rest w f told table' = absurd (let g = w.count in cc)

    again : (q : Put) → Few q → after_put j.number q (λ later new. place_all (s.rows ++ new) later left) ≡ p →
        (added : ℕ) (free' rest : List ℕ) → length free' ≡ length free →
        Wrote q free (take (length table - 4 * count) (drop (4 * count) table)) (Some added) free' rest →
        SoFar p first free' (put_mid (4 * count) (length table - 4 * count) table rest) (count + added) left
    unfolding after_put count_of free_after table_after
    again cannot f e added free' rest kept w = absurd (let g = w.count in cc)
    again (put later new) f e added free' rest kept w =
        let more : added ≡ length new = (let g = w.count in cc) in
        record {
          rows = s.rows ++ new;
          counted = omega (arith, length-append s.rows new, s.counted);
          some = omega (arith, s.some);
          few = omega (arith, s.few);
          bounded = omega (arith, s.bounded);
          space = omega (arith, s.space);
          front = ap (put_mid (4 * count) (length table - 4 * count) table) w.rows
              ∙ ap (λ (n : ℕ). put_mid (4 * n) (length table - 4 * n) table
              (with_rows new (take (length table - 4 * n) (drop (4 * n) table)))) s.counted
              ∙ ap (λ (t : List ℕ). put_mid (4 * length s.rows) (length t - 4 * length s.rows) t
              (with_rows new (take (length t - 4 * length s.rows) (drop (4 * length s.rows) t)))) s.front
              ∙ rows_behind s.rows first new;
          whole = rw w.later e;
        }

    module _ (answer : Option ℕ) (free' rest : List ℕ)
        (w : Wrote (put_next free j left) free (take (length table - 4 * count) (drop (4 * count) table)) answer free' rest) where
      pub told_stop : answer ≡ None → (f : Fault) → f ≡ record { refusal = NoPlan; place = j.number } → (table' : List ℕ) →
          Told p first (Err f) table'
      told_stop e = told_none (put_next free j left) next _ free' rest (rw e at w)

      pub so_far_again : (added : ℕ) → answer ≡ Some added → length free' ≡ length free →
          SoFar p first free' (put_mid (4 * count) (length table - 4 * count) table rest) (count + added) left
      so_far_again added e kept = again (put_next free j left) (few_next free j left) next added free' rest kept (rw e at w)

pub left_next : (others : List ℕ) (last i : ℕ) → i < length others →
    left_from others last i ≡ job_in (get_or others i 0) ∷ left_from others last (i + 1)
left_next others last i h =
    ap (λ (js : List Job). js ++ job_in last ∷ [])
    (drop-cons (map job_in others) i (job_in 0) (omega (arith, length-map others job_in))
    ∙ ap (λ (j : Job). j ∷ drop (suc i) (map job_in others)) (get_or-map job_in others i 0 (job_in 0) h)
    ∙ ap (λ (k : ℕ). job_in (get_or others i 0) ∷ drop k (map job_in others)) (sym (add-one i)))

pub left_end : (others : List ℕ) (last i : ℕ) → length others ≤ i → left_from others last i ≡ job_in last ∷ []
left_end others last i h = ap (λ (js : List Job). js ++ job_in last ∷ [])
    (drop_of_length-le (map job_in others) {i = i} (omega (arith, length-map others job_in)))

not_last : (js : List Job) (j : Job) → is_empty (js ++ j ∷ []) ≡ false
not_last [] j = refl
not_last (k ∷ js) j = refl

module _ (others : List ℕ) (last i : ℕ) (p : Placing) (first free table : List ℕ) (count : ℕ)
    (s : SoFar p first free table count (left_from others last i)) where
  -- a job before the last goes by steps 2 to 4
  module _ (h : i < length others) (j : Job) (e : j ≡ job_in (get_or others i 0)) (answer : Option ℕ) (free' rest : List ℕ)
      (w : Wrote (place_other free j) free (take (length table - 4 * count) (drop (4 * count) table)) answer free' rest) where
    at_other : SoFar p first free table count (j ∷ left_from others last (i + 1))
    at_other = rw (e, ← left_next others last i h) s

    by_other : Wrote (put_next free j (left_from others last (i + 1))) free
        (take (length table - 4 * count) (drop (4 * count) table)) answer free' rest
    by_other = rw (not_last (drop (i + 1) (map job_in others)) (job_in last)) w

    pub other_stop : answer ≡ None → (f : Fault) → f ≡ record { refusal = NoPlan; place = j.number } →
        (table' : List ℕ) → Told p first (Err f) table'
    other_stop = told_stop p first free table count j _ at_other answer free' rest by_other

    pub other_again : (added : ℕ) → answer ≡ Some added → length free' ≡ length free →
        SoFar p first free' (put_mid (4 * count) (length table - 4 * count) table rest) (count + added)
        (left_from others last (i + 1))
    other_again = so_far_again p first free table count j _ at_other answer free' rest by_other

  -- the last one by step 1
  module _ (h : length others ≤ i) (j : Job) (e : j ≡ job_in last) (answer : Option ℕ) (free' rest : List ℕ)
      (w : Wrote (place_last free j) free (take (length table - 4 * count) (drop (4 * count) table)) answer free' rest) where
    at_last : SoFar p first free table count (j ∷ [])
    at_last = rw (e, ← left_end others last i h) s

    pub last_stop : answer ≡ None → (f : Fault) → f ≡ record { refusal = NoPlan; place = j.number } →
        (table' : List ℕ) → Told p first (Err f) table'
    last_stop = told_stop p first free table count j [] at_last answer free' rest w

    pub last_again : (added : ℕ) → answer ≡ Some added → length free' ≡ length free →
        SoFar p first free' (put_mid (4 * count) (length table - 4 * count) table rest) (count + added) []
    last_again = so_far_again p first free table count j [] at_last answer free' rest w
