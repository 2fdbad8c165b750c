-- Laws of decimal digits: the count of digits left never runs out, and a number's last digit stands behind the others.
use Rattle.std.specs.Prelude.{◌≡◌, refl, List, [], ◌∷◌, ◌++◌, ℕ, zero, suc, ◌+◌, ◌/◌, ◌%◌, ◌≤◌, ◌<◌, ltb}
use Rattle.std.proofs.Common.{sym, ap, ◌∙◌, arith, lt-ltb, le-ltb}
use Rattle.std.proofs.Math.Decide.{dec_lt}
use Rattle.rules.specs.Listings.{digits, decimal}
use Rattle.laws.specs.Tests.{pick_yes, pick_no}

-- one digit, or more
pub digits_last : (k n : ℕ) (behind : List ℕ) → n < 10 → digits (suc k) n behind ≡ (48 + n) ∷ behind
unfolding digits
digits_last k n behind h = pick_yes (ltb n 10) ((48 + n) ∷ behind) (digits k (n / 10) ((48 + n % 10) ∷ behind)) (lt-ltb n 10 h)

pub digits_more : (k n : ℕ) (behind : List ℕ) → 10 ≤ n → digits (suc k) n behind ≡ digits k (n / 10) ((48 + n % 10) ∷ behind)
unfolding digits
digits_more k n behind h = pick_no (ltb n 10) ((48 + n) ∷ behind) (digits k (n / 10) ((48 + n % 10) ∷ behind)) (le-ltb n 10 h)

-- any two counts that are large enough give the same digits
pub digits_enough : (k l n : ℕ) (behind : List ℕ) → n < k → n < l → digits k n behind ≡ digits l n behind
digits_enough zero l n behind h i = absurd (omega arith)
digits_enough (suc k) zero n behind h i = absurd (omega arith)
digits_enough (suc k) (suc l) n behind h i =
    elim (dec_lt n 10) [
      | yes s ↦ digits_last k n behind s ∙ sym (digits_last l n behind s)
      | no s ↦ digits_more k n behind (omega arith) ∙ digits_enough k l (n / 10) ((48 + n % 10) ∷ behind) (omega arith) (omega arith) ∙ sym (digits_more l n behind (omega arith))
    ]

-- what stands behind stays behind
pub digits_append : (k n : ℕ) (behind more : List ℕ) → digits k n (behind ++ more) ≡ digits k n behind ++ more
unfolding digits
digits_append zero n behind more = refl
digits_append (suc k) n behind more =
    elim (dec_lt n 10) [
      | yes s ↦ digits_last k n (behind ++ more) s ∙ ap (λ (l : List ℕ). l ++ more) (sym (digits_last k n behind s))
      | no s ↦ digits_more k n (behind ++ more) (omega arith) ∙ digits_append k (n / 10) ((48 + n % 10) ∷ behind) more ∙ ap (λ (l : List ℕ). l ++ more) (sym (digits_more k n behind (omega arith)))
    ]

pub decimal_one : (n : ℕ) → n < 10 → decimal n ≡ (48 + n) ∷ []
unfolding decimal
decimal_one n h = digits_last n n [] h

pub decimal_more : (n : ℕ) → 10 ≤ n → decimal n ≡ decimal (n / 10) ++ ((48 + n % 10) ∷ [])
unfolding decimal
decimal_more n h =
    digits_more n n [] h
    ∙ digits_append n (n / 10) [] ((48 + n % 10) ∷ [])
    ∙ ap (λ (l : List ℕ). l ++ ((48 + n % 10) ∷ [])) (digits_enough n (suc (n / 10)) (n / 10) [] (omega arith) (omega arith))
