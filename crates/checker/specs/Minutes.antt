-- The minutes of each job, added up row by row, against the works.
use Rattle.std.specs.Prelude.{◌≡◌, refl, Bool, true, ◌&&◌, Some, List, [], ◌∷◌, ℕ, zero, suc, ◌+◌, ◌*◌, ◌-◌, ◌≤◌, ◌<◌, length, get_or, set, eqb}
use Rattle.std.specs.Borrow.{Bor}
use Rattle.std.specs.declared.slice.ChunksExact.{ChunksExact}
use Rattle.std.specs.Slice.Iter.{chunks_exact_rest, chunks_exact_size, chunks_exact_steps}
use Rattle.std.specs.List.{list_all, zip}
use Rattle.std.proofs.Common.{sym, ap, ap₂, ◌∙◌, inl, inr, arith, add-zero, zero-add, eq-eqb, length-set, get_or-set_same, get_or-set_other, eqb-true}
use Rattle.std.proofs.lemmas.Bool.{eqb-false}
use Rattle.rules.specs.Basics.{pick, All, every, zeros, most_minutes}
use Rattle.rules.specs.Plans.{Row, Job, first_row, jobs_from, jobs, minutes_of}
use Rattle.laws.specs.Tests.{pick_yes, pick_no, decided, every_all}
use Rattle.tablerows.specs.Chunks.{rows_in, rows_turn}
use Rattle.checker.specs.Alone.{line_good, Timed, Sound, sound}

pub all_sound : (m : ℕ) (dues : List ℕ) (rows : List Row) → ((i : ℕ) → i < length dues → get_or dues i 0 ≤ most_minutes) → every (line_good m dues) rows ≡ true → All (Sound m (length dues)) rows
all_sound m dues rows small e = every_all (line_good m dues) (Sound m (length dues)) (sound m dues small) rows e

-- the minutes of each job, job 1 first
abbrev pub Spent : List Row → List ℕ → Type 0
Spent rows spent = (k : ℕ) → k < length spent → get_or spent k 0 ≡ minutes_of (suc k) rows

-- with what the rows that are left still add
abbrev pub Spending : List Row → List Row → List ℕ → Type 0
Spending rows left spent = (k : ℕ) → k < length spent → get_or spent k 0 + minutes_of (suc k) left ≡ minutes_of (suc k) rows

-- no sum wraps: 1,000,000 minutes a row
pub minutes_most : (number n : ℕ) (rows : List Row) → All (Timed n) rows → minutes_of number rows ≤ 1000000 * length rows
unfolding minutes_of
minutes_most number n [] t = omega arith
minutes_most number n (r ∷ rows) t =
    elim (decided (eqb r.job number)) [
      | inl e ↦ omega (arith, pick_yes (eqb r.job number) (r.to - r.from) 0 e, minutes_most number n rows t.1, t.0.early)
      | inr e ↦ omega (arith, pick_no (eqb r.job number) (r.to - r.from) 0 e, minutes_most number n rows t.1)
    ]

pub zero_at : (n k : ℕ) → get_or (zeros n) k 0 ≡ 0
zero_at zero k = refl
zero_at (suc n) zero = refl
zero_at (suc n) (suc k) = zero_at n k

pub spending_none : (rows : List Row) (spent : List ℕ) → ((k : ℕ) → get_or spent k 0 ≡ 0) → Spending rows rows spent
spending_none rows spent z k h = omega (arith, z k)

pub spending_all : (rows : List Row) (spent : List ℕ) → Spending rows [] spent → Spent rows spent
unfolding minutes_of
spending_all rows spent s k h = omega (arith, s k h)

-- the row in hand, of a loop over the chunks of what is left
pub spending_turn : (rows : List Row) (spent : List ℕ) (n : ℕ) (s t : ChunksExact ℕ) (x : Bor (List ℕ)) (r : Row) → chunks_exact_steps s (Some x) t → chunks_exact_size s ≡ 4 → r ≡ first_row x.now
    → All (Timed n) (rows_in (chunks_exact_rest s)) → Spending rows (rows_in (chunks_exact_rest s)) spent
    → Timed n r × All (Timed n) (rows_in (chunks_exact_rest t)) × Spending rows (r ∷ rows_in (chunks_exact_rest t)) spent
spending_turn rows spent n s t x r h four e timed left =
    let turn = rows_turn s t x h four ∙ ap (λ (q : Row). q ∷ rows_in (chunks_exact_rest t)) (sym e) in
    let each = rw turn at timed in
    (each.0, each.1, rw turn at left)

module _ (rows left : List Row) (r : Row) (spent : List ℕ) (s : Spending rows (r ∷ left) spent) (t : Timed (length spent) r) where
  pub spending_fits : get_or spent (r.job - 1) 0 + (r.to - r.from) ≤ minutes_of r.job rows
  unfolding minutes_of
  spending_fits =
      let job : suc (r.job - 1) ≡ r.job = omega (arith, t.job_low) in
      let here = s (r.job - 1) (omega (arith, t.job_low, t.job_high)) in
      let own : pick (eqb r.job r.job) (r.to - r.from) 0 ≡ r.to - r.from = pick_yes (eqb r.job r.job) (r.to - r.from) 0 (eq-eqb r.job r.job refl) in
      omega (arith, rw job at here, own)

  pub spending_more : (n : ℕ) → n ≡ get_or spent (r.job - 1) 0 + (r.to - r.from) → Spending rows left (set spent (r.job - 1) n)
  unfolding minutes_of
  spending_more n e k h =
      let here : k < length spent = omega (arith, length-set spent (r.job - 1) n) in
      elim (decided (eqb r.job (suc k))) [
        | inl q ↦
            let at : k ≡ r.job - 1 = omega (arith, eqb-true r.job (suc k) q) in
            omega (
              arith,
              s k here,
              pick_yes (eqb r.job (suc k)) (r.to - r.from) 0 q,
              ap (λ (m : ℕ). get_or spent m 0) at,
              ap (λ (m : ℕ). get_or (set spent (r.job - 1) n) m 0) at,
              get_or-set_same spent (r.job - 1) n 0 (omega arith),
            )
        | inr q ↦ omega (
          arith,
          s k here,
          pick_no (eqb r.job (suc k)) (r.to - r.from) 0 q,
          get_or-set_other spent (r.job - 1) k n 0 (λ at. eqb-false r.job (suc k) q (omega (arith, t.job_low))),
        )
      ]

-- the works at the front of the minutes, job k + 1 first
unfoldable pub exact_from : ℕ → List ℕ → List Row → Bool
exact_from k [] rows = true
exact_from k (w ∷ works) rows = eqb (minutes_of (suc k) rows) w && exact_from (suc k) works rows

unfoldable pub exact_minutes : List ℕ → List Row → Bool
exact_minutes works rows = exact_from 0 works rows

-- whether the minutes that were added up for a job are its work, as the code asks it
abbrev pub met : ℕ × ℕ → Bool
met job = eqb job.0 job.1

met_from : (k : ℕ) (rows : List Row) (works spent : List ℕ) → length works ≤ length spent → ((j : ℕ) → j < length spent → get_or spent j 0 ≡ minutes_of (suc (k + j)) rows)
    → list_all met (zip spent works) ≡ exact_from k works rows
unfolding exact_from
met_from k rows [] [] l f = refl
met_from k rows [] (s ∷ spent) l f = refl
met_from k rows (w ∷ works) [] l f = absurd (omega arith)
met_from k rows (w ∷ works) (s ∷ spent) l f =
    ap₂ (λ (a b : Bool). a && b) (ap (λ (n : ℕ). eqb n w) (f 0 (omega arith) ∙ ap (λ (n : ℕ). minutes_of (suc n) rows) (add-zero k)))
    (met_from (suc k) rows works spent (omega arith) (λ j h. f (suc j) (omega arith) ∙ ap (λ (n : ℕ). minutes_of (suc n) rows) (next k j)))
  where
    next : (k j : ℕ) → k + suc j ≡ suc k + j
    next k j = omega arith

pub exact_spent : (rows : List Row) (works spent : List ℕ) → length works ≤ length spent → Spent rows spent → list_all met (zip spent works) ≡ exact_minutes works rows
unfolding exact_minutes
exact_spent rows works spent l s = met_from 0 rows works spent l (λ j h. s j h ∙ ap (λ (n : ℕ). minutes_of (suc n) rows) (sym (zero-add j)))

-- the same of the jobs, one by one
pub exact_jobs : (works dues : List ℕ) (rows : List Row) → length works ≡ length dues → exact_minutes works rows ≡ every (λ (j : Job). eqb (minutes_of j.number rows) j.work) (jobs works dues)
unfolding exact_minutes jobs exact_from every jobs_from
exact_jobs works dues rows l = from 0 works dues l
  where
    from : (k : ℕ) (works dues : List ℕ) → length works ≡ length dues → exact_from k works rows ≡ every (λ (j : Job). eqb (minutes_of j.number rows) j.work) (jobs_from (suc k) works dues)
    from k [] [] l = refl
    from k [] (d ∷ dues) l = absurd (omega arith)
    from k (w ∷ works) [] l = absurd (omega arith)
    from k (w ∷ works) (d ∷ dues) l = ap (λ (b : Bool). eqb (minutes_of (suc k) rows) w && b) (from (suc k) works dues (omega arith))
