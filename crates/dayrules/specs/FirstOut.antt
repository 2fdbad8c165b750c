-- Laws of `first_out`: the end, a good job, a bad one; and that it names a job of the list.
use Rattle.std.specs.Prelude.{◌≡◌, refl, true, false, List, [], ◌∷◌, ℕ, suc, ◌+◌, ◌≤◌, ◌⊎◌, length}
use Rattle.std.proofs.Common.{sym, ◌∙◌, ap, inl, inr, add-one, arith}
use Rattle.rules.specs.Planning.{job_good, first_out_from, first_out}
use Rattle.laws.specs.Tests.{pick_yes, pick_no, decided}

none_left : (k : ℕ) (dues : List ℕ) → first_out_from k [] dues ≡ 0
unfolding first_out_from
none_left k [] = refl
none_left k (d ∷ dues) = refl

none_right : (k : ℕ) (works : List ℕ) → first_out_from k works [] ≡ 0
unfolding first_out_from
none_right k [] = refl
none_right k (w ∷ works) = refl

pub out_start : (works dues : List ℕ) → first_out_from (0 + 1) works dues ≡ first_out works dues
unfolding first_out
out_start works dues = refl

first_good : (k w d : ℕ) (ws ds : List ℕ) → job_good w d ≡ true → first_out_from (k + 1) (w ∷ ws) (d ∷ ds) ≡ first_out_from (k + 1 + 1) ws ds
unfolding first_out_from
first_good k w d ws ds good = pick_yes (job_good w d) _ _ good ∙ ap (λ (n : ℕ). first_out_from n ws ds) (sym (add-one (k + 1)))

first_bad : (k w d : ℕ) (ws ds : List ℕ) → job_good w d ≡ false → first_out_from (k + 1) (w ∷ ws) (d ∷ ds) ≡ k + 1
unfolding first_out_from
first_bad k w d ws ds bad = pick_no (job_good w d) _ _ bad

-- The first of the jobs that are left, counted from k + 1 on, is good: the answer is that of those behind it.
pub out_good : (k : ℕ) {k' w d whole : ℕ} {ws ws' ds ds' : List ℕ} → ws ≡ w ∷ ws' → ds ≡ d ∷ ds' → k' ≡ k + 1 → job_good w d ≡ true →
    first_out_from (k + 1) ws ds ≡ whole → first_out_from (k' + 1) ws' ds' ≡ whole
out_good k {w = w} {d = d} {ws' = ws'} {ds' = ds'} p q r good whole_is =
    rw r (sym (first_good k w d ws' ds' good) ∙ rw (p, q) at whole_is)

-- Or it is bad: it is the answer.
pub out_bad : (k : ℕ) {w d whole : ℕ} {ws ws' ds ds' : List ℕ} → ws ≡ w ∷ ws' → ds ≡ d ∷ ds' → job_good w d ≡ false →
    first_out_from (k + 1) ws ds ≡ whole → k + 1 ≡ whole
out_bad k {w = w} {d = d} {ws' = ws'} {ds' = ds'} p q bad whole_is =
    sym (first_bad k w d ws' ds' bad) ∙ rw (p, q) at whole_is

-- Or there is none.
pub out_end : (k : ℕ) {whole : ℕ} (ws ds : List ℕ) → (length ws ≡ 0) ⊎ (length ds ≡ 0) → first_out_from k ws ds ≡ whole → whole ≡ 0
out_end k [] ds e p = sym p ∙ none_left k ds
out_end k (w ∷ ws) [] e p = sym p ∙ none_right k (w ∷ ws)
out_end k (w ∷ ws) (d ∷ ds) (inl e) p = absurd (omega arith)
out_end k (w ∷ ws) (d ∷ ds) (inr e) p = absurd (omega arith)

from_bound : (k : ℕ) (works dues : List ℕ) → first_out_from (suc k) works dues ≤ k + length works
unfolding first_out_from
from_bound k [] dues = omega (arith, none_left (suc k) dues)
from_bound k (w ∷ works) [] = omega arith
from_bound k (w ∷ works) (d ∷ dues) =
    elim (decided (job_good w d)) [
      | inl e ↦ omega (
        arith,
        pick_yes (job_good w d) (first_out_from (suc (suc k)) works dues) (suc k) e,
        from_bound (suc k)
            works dues,
      )
      | inr e ↦ omega (arith, pick_no (job_good w d) (first_out_from (suc (suc k)) works dues) (suc k) e)
    ]

pub first_out_bound : (works dues : List ℕ) → first_out works dues ≤ length works
unfolding first_out
first_out_bound works dues = omega (arith, from_bound 0 works dues)
