-- Numbers for each minute, and their sums. One test, `step`, with a case lemma; after that no test is opened.
use Rattle.std.specs.Prelude.{◌≡◌, refl, ◌⊎◌, ℕ, zero, suc, ◌+◌, ◌-◌, ◌≤◌, ◌<◌, leb, eqb}
use Rattle.std.proofs.Common.{ap, inl, inr, arith, le-leb, eq-eqb, ne_eqb}
use Rattle.std.proofs.Math.Decide.{dec_le, ℕ_discrete}
use Rattle.std.proofs.lemmas.Bool.{lt-leb}
use Rattle.rules.specs.Basics.{pick}
use Rattle.laws.specs.Tests.{pick_yes, pick_no}

-- 1 from minute a on, 0 before
pub step : ℕ → ℕ → ℕ
step a x = pick (leb a x) 1 0

pub step_cases : (a x : ℕ) → ((a ≤ x) × (step a x ≡ 1)) ⊎ ((x < a) × (step a x ≡ 0))
unfolding step
step_cases a x =
    elim (dec_le a x) [
      | yes h ↦ inl (h, pick_yes (leb a x) 1 0 (le-leb a x h))
      | no h ↦ let l : x < a = omega arith in inr (l, pick_no (leb a x) 1 0 (lt-leb a x l))
    ]

pub step_on : (a x : ℕ) → a ≤ x → step a x ≡ 1
step_on a x l = elim (step_cases a x) [ inl h ↦ h.1 | inr h ↦ absurd (omega arith) ]

pub step_off : (a x : ℕ) → x < a → step a x ≡ 0
step_off a x l = elim (step_cases a x) [ inl h ↦ absurd (omega arith) | inr h ↦ h.1 ]

pub step_small : (a x : ℕ) → step a x ≤ 1
step_small a x = elim (step_cases a x) [ inl h ↦ omega arith | inr h ↦ omega arith ]

pub step_le : (a b x y : ℕ) → (a ≤ x → b ≤ y) → step a x ≤ step b y
step_le a b x y h = elim (step_cases a x) [ inl k ↦ omega (arith, step_small a x, step_on b y (h k.0)) | inr k ↦ omega arith ]

-- 1 in minute a, else 0
pub at : ℕ → ℕ → ℕ
at a x = pick (eqb x a) 1 0

pub at_cases : (a x : ℕ) → ((x ≡ a) × (at a x ≡ 1)) ⊎ ((x ≡ a → ⊥) × (at a x ≡ 0))
unfolding at
at_cases a x =
    elim (ℕ_discrete x a) [
      | yes h ↦ inl (h, pick_yes (eqb x a) 1 0 (eq-eqb x a h))
      | no h ↦ inr (h, pick_no (eqb x a) 1 0 (ne_eqb x a h))
    ]

-- the sum of the minutes below n
abbrev pub sum : (ℕ → ℕ) → ℕ → ℕ
sum f zero = 0
sum f (suc n) = sum f n + f n

pub sum_law : (f g h k : ℕ → ℕ) (n : ℕ) → ((x : ℕ) → x < n → f x + g x ≡ h x + k x) → sum f n + sum g n ≡ sum h n + sum k n
sum_law f g h k zero e = refl
sum_law f g h k (suc n) e = omega (arith, sum_law f g h k n (λ x l. e x (omega arith)), e n (omega arith))

pub sum_le : (f g : ℕ → ℕ) (n : ℕ) → ((x : ℕ) → x < n → f x ≤ g x) → sum f n ≤ sum g n
sum_le f g zero e = omega arith
sum_le f g (suc n) e = omega (arith, sum_le f g n (λ x l. e x (omega arith)), e n (omega arith))

pub sum_add : (f g h : ℕ → ℕ) (n : ℕ) → ((x : ℕ) → x < n → f x + g x ≡ h x) → sum f n + sum g n ≡ sum h n
sum_add f g h zero e = refl
sum_add f g h (suc n) e = omega (arith, sum_add f g h n (λ x l. e x (omega arith)), e n (omega arith))

-- a minute that counts, where the sum is not 0; and none where it is
pub sum_find : (f : ℕ → ℕ) (n : ℕ) → 0 < sum f n → (x : ℕ) × (x < n) × (0 < f x)
sum_find f zero p = absurd (omega arith)
sum_find f (suc n) p =
    elim (dec_le (f n) 0) [
      | yes h ↦ let (x, l, q) = sum_find f n (omega arith) in (x, omega arith, q)
      | no h ↦ (n, omega arith, omega arith)
    ]

pub sum_none : (f : ℕ → ℕ) (n : ℕ) → sum f n ≡ 0 → (x : ℕ) → x < n → f x ≡ 0
sum_none f zero e x l = absurd (omega arith)
sum_none f (suc n) e x l =
    elim (dec_le n x) [
      | yes h ↦ let q : x ≡ n = omega arith in omega (arith, ap f q)
      | no h ↦ sum_none f n (omega arith) x (omega arith)
    ]

pub sum_step : (a n : ℕ) → sum (step a) n ≡ n - a
sum_step a zero = omega arith
sum_step a (suc n) = elim (step_cases a n) [ inl h ↦ omega (arith, sum_step a n) | inr h ↦ omega (arith, sum_step a n) ]

pub sum_at : (a n : ℕ) → a < n → sum (at a) n ≡ 1
sum_at a n l = omega (arith, sum_add (at a) (step (suc a)) (step a) n one, sum_step (suc a) n, sum_step a n)
  where
    one : (x : ℕ) → x < n → at a x + step (suc a) x ≡ step a x
    one x m =
        elim (at_cases a x) [
          | inl h ↦ omega (arith, step_off (suc a) x (omega arith), step_on a x (omega arith))
          | inr h ↦ elim (step_cases a x) [ inl k ↦ omega (arith, step_on (suc a) x (omega arith)) | inr k ↦ omega (arith, step_off (suc a) x (omega arith)) ]
        ]
