-- A number's digits from the first on.
use Rattle.std.specs.Prelude.{◌≡◌, refl, List, [], ◌∷◌, ◌++◌, ℕ, zero, suc, ◌+◌, ◌*◌, ◌/◌, ◌%◌, ◌^◌, ◌≤◌, ◌<◌, length}
use Rattle.std.proofs.Common.{sym, ap, ◌∙◌, append_assoc, append-nil, arith, le-div_iff_mul-le, pow-suc, div-one, mul_comm, add-one, lit<, lit≤}
use Rattle.std.proofs.Math.Decide.{dec_le}
use Rattle.std.proofs.Math.Nat.{div-div-eq-div-mul, pow-le-pow_right}
use Rattle.laws.specs.Stores.{stored}
use Rattle.laws.specs.Decimal.{decimal_one, decimal_more}
use Rattle.rules.specs.Listings.{decimal}

-- these bytes were put at a place, and end at `to`
pub record Put (b₀ : List ℕ) (at : ℕ) (v b : List ℕ) (to : ℕ) : Type 0 where
  pub holds : b ≡ stored b₀ at v
  pub ends : to ≡ at + length v

-- the power of ten of n's first digit, with the count of the digits behind it
pub record IsLead (n p : ℕ) : Type 0 where
  pub left : ℕ
  pub power : p ≡ 10 ^ left
  pub few : left ≤ 9
  pub one : n / p < 10
  pub some : 0 < left → 1 ≤ n / p

-- ---- finding the power

pub record Rising (n p : ℕ) : Type 0 where
  pub left : ℕ
  pub power : p ≡ 10 ^ left
  pub few : left ≤ 9
  pub some : 0 < left → 1 ≤ n / p

pub power_pos : (left : ℕ) → 1 ≤ 10 ^ left
power_pos left = pow-le-pow_right {n = 10} (lit< tt) {i = 0} {j = left} (omega arith)

pub rising_start : (n : ℕ) → Rising n 1
rising_start n = record { left = 0; power = refl; few = lit≤ tt; some = λ h. absurd (omega arith) }

pub rising_pos : (n p : ℕ) → Rising n p → 0 < p
rising_pos n p r = rw r.power (power_pos r.left)

pub rising_fits : (n p : ℕ) → 0 < p → 10 ≤ n / p → p * 10 ≤ n
rising_fits n p h t = rw (mul_comm p 10) ((le-div_iff_mul-le h).0 t)

pub rising_less : (n p : ℕ) → 10 ≤ n / p → n / (p * 10) < n / p
rising_less n p t = omega (arith, div-div-eq-div-mul n p 10)

pub rising_more : (n p : ℕ) → n < 4294967296 → Rising n p → 10 ≤ n / p → Rising n (p * 10)
rising_more n p fits r t =
    let e : p * 10 ≡ 10 ^ (r.left + 1) = ap (λ (x : ℕ). x * 10) r.power ∙ sym (pow-suc 10 r.left) ∙ ap (λ (k : ℕ). 10 ^ k) (sym (add-one r.left)) in
    let below : p * 10 ≤ n = rising_fits n p (rising_pos n p r) t in
    record {
      left = r.left + 1;
      power = e;
      few = elim (dec_le (r.left + 1) 9) [ yes h ↦ h | no h ↦ absurd (too_many n (r.left + 1) fits (omega arith) (rw e at below)) ];
      some = λ h. omega (arith, div-div-eq-div-mul n p 10);
    }
  where
    too_many : (n k : ℕ) → n < 4294967296 → 10 ≤ k → 10 ^ k ≤ n → ⊥
    too_many n k fits h i = omega (arith, pow-le-pow_right {n = 10} (lit< tt) {i = 10} {j = k} h)

pub rising_done : (n p : ℕ) → Rising n p → n / p < 10 → IsLead n p
rising_done n p r h = record { left = r.left; power = r.power; few = r.few; one = h; some = r.some }

-- ---- putting the digits

-- the last k digits
unfoldable pub digits_from : ℕ → ℕ → List ℕ
digits_from n zero = []
digits_from n (suc k) = (48 + n / 10 ^ k % 10) ∷ digits_from n k

-- the digits before the last k, and those
pub digits_split : (n k : ℕ) → (0 < k → 1 ≤ n / 10 ^ k) → decimal (n / 10 ^ k) ++ digits_from n k ≡ decimal n
unfolding digits_from
digits_split n zero h = append-nil (decimal (n / 1)) ∙ ap decimal (div-one n)
digits_split n (suc k) h =
    let q = n / 10 ^ k in
    let down : n / 10 ^ suc k ≡ q / 10 = ap (λ (y : ℕ). n / y) (pow-suc 10 k) ∙ sym (div-div-eq-div-mul n (10 ^ k) 10) in
    let one : 1 ≤ n / 10 ^ suc k = h (omega arith) in
    ap (λ (m : ℕ). decimal m ++ ((48 + q % 10) ∷ digits_from n k)) down
    ∙ sym (append_assoc (decimal (q / 10)) ((48 + q % 10) ∷ []) (digits_from n k))
    ∙ ap (λ (v : List ℕ). v ++ digits_from n k) (sym (decimal_more q (omega arith)))
    ∙ digits_split n k (λ _. omega arith)

pub digits_all : (n p : ℕ) (l : IsLead n p) → digits_from n (l.left + 1) ≡ decimal n
unfolding digits_from
digits_all n p l =
    let q = n / 10 ^ l.left in
    let same : q ≡ n / p = ap (λ (y : ℕ). n / y) (sym l.power) in
    let low : q < 10 = rw same l.one in
    let last : 48 + q % 10 ≡ 48 + q = omega arith in
    ap (digits_from n) (add-one l.left)
    ∙ ap (λ (y : ℕ). y ∷ digits_from n l.left) last
    ∙ ap (λ (v : List ℕ). v ++ digits_from n l.left) (sym (decimal_one q low))
    ∙ digits_split n l.left (λ h. rw same (l.some h))
