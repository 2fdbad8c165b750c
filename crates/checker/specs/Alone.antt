-- What is asked of a row alone: that it serves a job of the lists is a question of one due minute.
use Rattle.std.specs.Prelude.{◌≡◌, refl, Bool, true, false, ◌&&◌, ◌||◌, List, [], ◌∷◌, ℕ, zero, suc, ◌+◌, ◌-◌, ◌≤◌, ◌<◌, length, get_or, leb, ltb, eqb}
use Rattle.std.specs.List.{list_all}
use Rattle.std.proofs.Common.{sym, ap, ap₂, ◌∙◌, arith, leb-true, ltb-true, eq-eqb, ne_eqb}
use Rattle.std.proofs.Math.Decide.{dec_le}
use Rattle.std.proofs.lemmas.Bool.{lt-leb}
use Rattle.rules.specs.Basics.{some, every, within, most_minutes}
use Rattle.rules.specs.Plans.{Row, jobs_from, jobs, serves, row_good}
use Rattle.laws.specs.Tests.{and_left, and_right, and_no_left, and_no_right, or_no, within_yes, within_low, within_high}

-- the row's job is one of the lists', and it ends by its due minute
unfoldable pub in_time : List ℕ → Row → Bool
in_time dues r = within 1 (length dues) r.job && leb r.to (get_or dues (r.job - 1) 0)

unfoldable pub line_good : ℕ → List ℕ → Row → Bool
line_good m dues r = within 1 m r.board && (ltb r.from r.to && in_time dues r)

-- no job before the row's, and none after it, is served

before_all : (r : Row) (n : ℕ) (works dues : List ℕ) → r.job < n → some (serves r) (jobs_from n works dues) ≡ false
unfolding some jobs_from serves
before_all r n [] dues h = refl
before_all r n (w ∷ works) [] h = refl
before_all r n (w ∷ works) (d ∷ dues) h =
    or_no _ _ (and_no_left (eqb r.job n) (leb r.to d) (ne_eqb r.job n (λ e. omega arith))) (before_all r (suc n) works dues (omega arith))

behind_all : (r : Row) (n : ℕ) (works dues : List ℕ) → n + length dues ≤ r.job → some (serves r) (jobs_from n works dues) ≡ false
unfolding some jobs_from serves
behind_all r n [] dues h = refl
behind_all r n (w ∷ works) [] h = refl
behind_all r n (w ∷ works) (d ∷ dues) h =
    or_no _ _ (and_no_left (eqb r.job n) (leb r.to d) (ne_eqb r.job n (λ e. omega arith))) (behind_all r (suc n) works dues (omega arith))

or_end : (a b : Bool) → b ≡ false → (a || b) ≡ a
or_end true b e = refl
or_end false b e = e

one_of : (r : Row) (n k : ℕ) (works dues : List ℕ) → length works ≡ length dues → r.job ≡ n + k → k < length dues → some (serves r) (jobs_from n works dues) ≡ leb r.to (get_or dues k 0)
unfolding some jobs_from serves
one_of r n k [] [] l e h = absurd (omega arith)
one_of r n k [] (d ∷ dues) l e h = absurd (omega arith)
one_of r n k (w ∷ works) [] l e h = absurd (omega arith)
one_of r n zero (w ∷ works) (d ∷ dues) l e h =
    or_end _ _ (before_all r (suc n) works dues (omega arith)) ∙ ap (λ (b : Bool). b && leb r.to d) (eq-eqb r.job n (omega arith))
one_of r n (suc k) (w ∷ works) (d ∷ dues) l e h =
    ap (λ (b : Bool). (b && leb r.to d) || some (serves r) (jobs_from (suc n) works dues)) (ne_eqb r.job n (λ q. omega arith))
    ∙ one_of r (suc n) k works dues (omega arith) (omega arith) (omega arith)

below_range : (low high n : ℕ) → n < low → within low high n ≡ false
unfolding within
below_range low high n h = and_no_left (leb low n) (leb n high) (lt-leb low n h)

above_range : (low high n : ℕ) → high < n → within low high n ≡ false
unfolding within
above_range low high n h = and_no_right (leb low n) (leb n high) (lt-leb n high h)

in_time_lem : (works dues : List ℕ) (r : Row) → length works ≡ length dues → some (serves r) (jobs works dues) ≡ in_time dues r
unfolding jobs in_time
in_time_lem works dues r l =
    elim (dec_le 1 r.job) [
      | no h ↦ before_all r 1 works dues (omega arith) ∙ sym (and_no_left _ _ (below_range 1 (length dues) r.job (omega arith)))
      | yes h ↦ elim (dec_le r.job (length dues)) [
        | no k ↦ behind_all r 1 works dues (omega arith) ∙ sym (and_no_left _ _ (above_range 1 (length dues) r.job (omega arith)))
        | yes k ↦ one_of r 1 (r.job - 1) works dues l (omega arith) (omega arith) ∙ ap (λ (b : Bool). b && leb r.to (get_or dues (r.job - 1) 0)) (sym (within_yes 1 (length dues) r.job h k))
      ]
    ]

pub line_row : (m : ℕ) (works dues : List ℕ) → length works ≡ length dues → (r : Row) → line_good m dues r ≡ row_good m (jobs works dues) r
unfolding line_good row_good
line_row m works dues l r = ap (λ (b : Bool). within 1 m r.board && (ltb r.from r.to && b)) (sym (in_time_lem works dues r l))

pub every_same : {A : Type 0} (p q : A → Bool) → ((x : A) → p x ≡ q x) → (xs : List A) → every p xs ≡ every q xs
unfolding every
every_same p q f [] = refl
every_same p q f (x ∷ xs) = ap₂ (λ (a b : Bool). a && b) (f x) (every_same p q f xs)

-- the test as the library's `all` asks it
pub every_all : {A : Type 0} (p : A → Bool) (xs : List A) → list_all p xs ≡ every p xs
unfolding every
every_all p [] = refl
every_all p (x ∷ xs) = ap (λ (b : Bool). p x && b) (every_all p xs)

-- what a good row gives: its job is one of n, its minutes are some, and all are at most 1,000,000
pub record Timed (n : ℕ) (r : Row) : Type 0 where
  pub minutes : r.from < r.to
  pub job_low : 1 ≤ r.job
  pub job_high : r.job ≤ n
  pub early : r.to ≤ most_minutes

pub record Sound (m n : ℕ) (r : Row) : Type 0 where
  pub board_low : 1 ≤ r.board
  pub board_high : r.board ≤ m
  pub timed : Timed n r

pub sound : (m : ℕ) (dues : List ℕ) → ((i : ℕ) → i < length dues → get_or dues i 0 ≤ most_minutes) → (r : Row) → line_good m dues r ≡ true → Sound m (length dues) r
unfolding line_good in_time
sound m dues small r e =
    let own = and_left (within 1 m r.board) _ e in
    let more = and_right (within 1 m r.board) _ e in
    let time = and_right (ltb r.from r.to) _ more in
    let among = and_left (within 1 (length dues) r.job) _ time in
    let low : 1 ≤ r.job = within_low 1 (length dues) r.job among in
    let high : r.job ≤ length dues = within_high 1 (length dues) r.job among in
    record {
      board_low = within_low 1 m r.board own;
      board_high = within_high 1 m r.board own;
      timed = record {
        minutes = ltb-true r.from r.to (and_left (ltb r.from r.to) _ more);
        job_low = low;
        job_high = high;
        early = omega (arith, leb-true r.to (get_or dues (r.job - 1) 0) (and_right (within 1 (length dues) r.job) _ time), small (r.job - 1) (omega arith));
      };
    }

pub timed_more : (n k : ℕ) (r : Row) → n ≤ k → Timed n r → Timed k r
timed_more n k r h t = record { minutes = t.minutes; job_low = t.job_low; job_high = omega arith; early = t.early }
