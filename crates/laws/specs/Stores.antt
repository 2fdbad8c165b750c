-- Stores into a lent list: what it holds after some numbers were put at a place, and stores one behind the other.
use Rattle.std.specs.Prelude.{◌≡◌, List, [], ◌∷◌, ◌++◌, ℕ, ◌+◌, ◌≤◌, ◌<◌, length, set, take, drop}
use Rattle.std.proofs.Common.{sym, ap, ap₂, ◌∙◌, append_assoc, arith, add-zero, add-one, length-append, length-drop, take-append-drop, length-take-le, take_at, drop-drop}
use Rattle.std.proofs.Math.Seq.{drop-append-add}
use Rattle.std.proofs.lemmas.List.{set_split}

-- the list with these put at a place
unfoldable pub stored : List ℕ → ℕ → List ℕ → List ℕ
stored b at v = take at b ++ (v ++ drop (at + length v) b)

pub length-stored : (b : List ℕ) (at : ℕ) (v : List ℕ) → at + length v ≤ length b → length (stored b at v) ≡ length b
unfolding stored
length-stored b at v h =
    omega (arith, length-append (take at b) (v ++ drop (at + length v) b), length-append v (drop (at + length v) b), length-take-le at b (omega arith), length-drop (at + length v) b)

-- the second store begins where the first ends
pub stored-stored : (b : List ℕ) (at to : ℕ) (v w : List ℕ) → to ≡ at + length v → at + length v + length w ≤ length b → stored (stored b at v) to w ≡ stored b at (v ++ w)
unfolding stored
stored-stored b at to v w e h =
    let p : List ℕ = take at b ++ v in
    let r : List ℕ = drop (at + length v) b in
    let lp : length p ≡ to = length-append (take at b) v ∙ ap (λ (n : ℕ). n + length v) (length-take-le at b (omega arith)) ∙ sym e in
    let sum : at + length v + length w ≡ at + length (v ++ w) = omega (arith, length-append v w) in
    let behind : drop (to + length w) (p ++ r) ≡ drop (at + length (v ++ w)) b =
    ap (λ (n : ℕ). drop (n + length w) (p ++ r)) (sym lp)
    ∙ drop-append-add p r (length w)
    ∙ drop-drop (length w) (at + length v) b
    ∙ ap (λ (n : ℕ). drop n b) sum in
    ap (λ (l : List ℕ). take to l ++ (w ++ drop (to + length w) l)) (sym (append_assoc (take at b) v r))
    ∙ ap₂ (λ (x y : List ℕ). x ++ (w ++ y)) (take_at p r to lp) behind
    ∙ append_assoc (take at b) v (w ++ drop (at + length (v ++ w)) b)
    ∙ ap (λ (l : List ℕ). take at b ++ l) (sym (append_assoc v w (drop (at + length (v ++ w)) b)))

-- no store
pub stored_none : (b : List ℕ) (at : ℕ) → b ≡ stored b at []
unfolding stored
stored_none b at = sym (ap (λ (n : ℕ). take at b ++ drop n b) (add-zero at) ∙ take-append-drop at b)

-- one store
pub put_one : (b : List ℕ) (at x : ℕ) → at < length b → set b at x ≡ stored b at (x ∷ [])
unfolding stored
put_one b at x h = set_split b at x h ∙ ap (λ (n : ℕ). take at b ++ (x ∷ drop n b)) (sym (add-one at))

-- a store behind a store is one store of both
pub behind : (b b₁ b₂ : List ℕ) (at to : ℕ) (v w : List ℕ) → b₁ ≡ stored b at v → b₂ ≡ stored b₁ to w → to ≡ at + length v → at + length v + length w ≤ length b → b₂ ≡ stored b at (v ++ w)
behind b b₁ b₂ at to v w p q e h = q ∙ ap (λ (l : List ℕ). stored l to w) p ∙ stored-stored b at to v w e h
