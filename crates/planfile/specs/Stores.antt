-- Loads and stores of numbers and rows as bytes, the lowest first.
use Rattle.std.specs.Prelude.{◌≡◌, refl, List, [], ◌∷◌, ◌++◌, ℕ, zero, suc, ◌+◌, ◌-◌, ◌/◌, ◌≤◌, length, take, drop}
use Rattle.std.specs.Int.{w32, to_le_bytes, from_le_bytes}
use Rattle.std.proofs.Common.{sym, ap, ap₂, ◌∙◌, length-drop, length-take-le, append_assoc, arith, length-append, drop-drop}
use borrow.Rule.Slice.PartMut.{put_mid}
use Rattle.std.proofs.Math.Nat.{add-sub_cancel_left, div-div-eq-div-mul}
use Rattle.laws.specs.Stores.{stored, behind}
use Rattle.rules.specs.Plans.{Row}
use Rattle.rules.specs.PlanFiles.{bytes_of, value_of, row_bytes}

pub length_bytes_of : (k x : ℕ) → length (bytes_of k x) ≡ k
unfolding bytes_of
length_bytes_of zero x = refl
length_bytes_of (suc k) x = ap suc (length_bytes_of k (x / 256))

-- the first bytes of a number, as the library has them
pub first_bytes : (n x : ℕ) → n ≤ 4 → take n (to_le_bytes w32 x) ≡ bytes_of n x
unfolding bytes_of
first_bytes zero x h = refl
first_bytes (suc zero) x h = refl
first_bytes (suc (suc zero)) x h = refl
first_bytes (suc (suc (suc zero))) x h = rw (div-div-eq-div-mul x 256 256) refl
first_bytes (suc (suc (suc (suc zero)))) x h = rw (div-div-eq-div-mul x 256 256, div-div-eq-div-mul x 65536 256) refl
first_bytes (suc (suc (suc (suc (suc n))))) x h = absurd (omega arith)

-- the first bytes of a number, set at a place
pub put_number : (b v w : List ℕ) (at n x y : ℕ) → n ≤ 4 → y ≡ x → w ≡ to_le_bytes w32 y → v ≡ take n w → put_mid at (at + n - at) b v ≡ stored b at (bytes_of n x)
unfolding stored
put_number b v w at n x y h s p q =
    let e : v ≡ bytes_of n x = q ∙ ap (take n) (p ∙ ap (to_le_bytes w32) s) ∙ first_bytes n x h in
    ap₂ (λ (l r : List ℕ). take at b ++ (l ++ r)) e
    (drop-drop (at + n - at) at b ∙ ap (λ (k : ℕ). drop k b) (omega (arith, length_bytes_of n x)))

-- bytes that are loaded, with zeros behind them
with_zeros : (l : List ℕ) → length l ≤ 4 → from_le_bytes w32 (l ++ drop (length l) (0 ∷ 0 ∷ 0 ∷ 0 ∷ [])) ≡ value_of l
unfolding value_of
with_zeros [] h = refl
with_zeros (a ∷ []) h = omega arith
with_zeros (a ∷ b ∷ []) h = omega arith
with_zeros (a ∷ b ∷ c ∷ []) h = omega arith
with_zeros (a ∷ b ∷ c ∷ d ∷ []) h = omega arith
with_zeros (a ∷ b ∷ c ∷ d ∷ e ∷ l) h = absurd (omega arith)

pub loaded : (s v : List ℕ) (at n x : ℕ) → n ≤ 4 → at + n ≤ length s → v ≡ take (at + n - at) (drop at s) → x ≡ from_le_bytes w32 (v ++ drop n (0 ∷ 0 ∷ 0 ∷ 0 ∷ []))
    → x ≡ value_of (take n (drop at s))
loaded s v at n x h k p q =
    let e : v ≡ take n (drop at s) = p ∙ ap (λ (m : ℕ). take m (drop at s)) (add-sub_cancel_left at n) in
    let l : length v ≡ n = ap length e ∙ length-take-le n (drop at s) (omega (arith, length-drop at s)) in
    q
    ∙ ap (λ (m : ℕ). from_le_bytes w32 (v ++ drop m (0 ∷ 0 ∷ 0 ∷ 0 ∷ []))) (sym l)
    ∙ with_zeros v (omega arith)
    ∙ ap value_of e

-- the four numbers of a row are its twelve bytes
pub put_row : (b b₁ b₂ b₃ b₄ : List ℕ) (at : ℕ) (r : Row) → at + 12 ≤ length b
    → b₁ ≡ stored b at (bytes_of 2 r.board)
    → b₂ ≡ stored b₁ (at + 2) (bytes_of 2 r.job)
    → b₃ ≡ stored b₂ (at + 4) (bytes_of 4 r.from)
    → b₄ ≡ stored b₃ (at + 8) (bytes_of 4 r.to)
    → b₄ ≡ stored b at (row_bytes r)
unfolding row_bytes
put_row b b₁ b₂ b₃ b₄ at r h p q s t =
    let v₁ = bytes_of 2 r.board in
    let v₂ = bytes_of 2 r.job in
    let v₃ = bytes_of 4 r.from in
    let v₄ = bytes_of 4 r.to in
    let l₁ : length v₁ ≡ 2 = length_bytes_of 2 r.board in
    let l₂ : length v₂ ≡ 2 = length_bytes_of 2 r.job in
    let l₃ : length v₃ ≡ 4 = length_bytes_of 4 r.from in
    let l₄ : length v₄ ≡ 4 = length_bytes_of 4 r.to in
    let s₂ : b₂ ≡ stored b at (v₁ ++ v₂) = behind b b₁ b₂ at (at + 2) v₁ v₂ p q (omega arith) (omega arith) in
    let m₂ : length (v₁ ++ v₂) ≡ 4 = length-append v₁ v₂ ∙ omega arith in
    let s₃ : b₃ ≡ stored b at (v₁ ++ v₂ ++ v₃) = behind b b₂ b₃ at (at + 4) (v₁ ++ v₂) v₃ s₂ s (omega arith) (omega arith) in
    let m₃ : length (v₁ ++ v₂ ++ v₃) ≡ 8 = length-append (v₁ ++ v₂) v₃ ∙ omega arith in
    behind b b₃ b₄ at (at + 8) (v₁ ++ v₂ ++ v₃) v₄ s₃ t (omega arith) (omega arith)
    ∙ ap (stored b at) (append_assoc (v₁ ++ v₂) v₃ v₄ ∙ append_assoc v₁ v₂ (v₃ ++ v₄))
