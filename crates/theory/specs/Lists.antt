-- Laws of lists: what holds of a list behind another, and of the same elements in another order.
use Rattle.std.specs.Prelude.{◌≡◌, refl, Bool, true, false, ◌||◌, List, [], ◌∷◌, ◌++◌, map, ℕ, zero, suc, ◌+◌, ◌<◌, length, get_or}
use Rattle.std.proofs.Common.{sym, ◌∙◌, ap, true≢false, inl, inr, arith}
use Rattle.rules.specs.Basics.{pick, All, Some, Pairs, every, some}
use Rattle.theory.specs.Demands.{total}
use Rattle.laws.specs.Tests.{map_all, decided, and_yes, and_left, and_right}

-- a test's two ways, each with its equation
pub pick_either {ℓ} : {A : Type ℓ} (P : A → Type 0) (b : Bool) (x y : A) → (b ≡ true → P x) → (b ≡ false → P y) → P (pick b x y)
pick_either P true x y f g = f refl
pick_either P false x y f g = g refl

-- sums

pub total-append : {A : Type 0} (f : A → ℕ) (xs ys : List A) → total f (xs ++ ys) ≡ total f xs + total f ys
total-append f [] ys = omega arith
total-append f (x ∷ xs) ys = omega (arith, total-append f xs ys)

-- facts of all elements, and of each two, taken together

pub all_and : {A : Type 0} (P Q R : A → Type 0) → ((x : A) → P x → Q x → R x) → (xs : List A) → All P xs → All Q xs → All R xs
all_and P Q R f [] p q = tt
all_and P Q R f (x ∷ xs) p q = (f x p.0 q.0, all_and P Q R f xs p.1 q.1)

pub map_pairs : {A : Type 0} (P Q : A → A → Type 0) → ((x y : A) → P x y → Q x y) → (xs : List A) → Pairs P xs → Pairs Q xs
map_pairs P Q f [] p = tt
map_pairs P Q f (x ∷ xs) p = (map_all (P x) (Q x) (f x) xs p.0, map_pairs P Q f xs p.1)

pub pairs_and : {A : Type 0} (P Q R : A → A → Type 0) → ((x y : A) → P x y → Q x y → R x y) → (xs : List A) → Pairs P xs → Pairs Q xs → Pairs R xs
pairs_and P Q R f [] p q = tt
pairs_and P Q R f (x ∷ xs) p q = (all_and (P x) (Q x) (R x) (f x) xs p.0 q.0, pairs_and P Q R f xs p.1 q.1)

-- one list behind another

pub all_append : {A : Type 0} (P : A → Type 0) (xs ys : List A) → All P xs → All P ys → All P (xs ++ ys)
all_append P [] ys p q = q
all_append P (x ∷ xs) ys p q = (p.0, all_append P xs ys p.1 q)

pub append_all : {A : Type 0} (P : A → Type 0) (xs ys : List A) → All P (xs ++ ys) → All P xs × All P ys
append_all P [] ys p = (tt, p)
append_all P (x ∷ xs) ys p = let h = append_all P xs ys p.1 in ((p.0, h.0), h.1)

pub some_append_left : {A : Type 0} (P : A → Type 0) (xs ys : List A) → Some P xs → Some P (xs ++ ys)
some_append_left P [] ys p = absurd p
some_append_left P (x ∷ xs) ys (inl p) = inl p
some_append_left P (x ∷ xs) ys (inr p) = inr (some_append_left P xs ys p)

pub some_append_right : {A : Type 0} (P : A → Type 0) (xs ys : List A) → Some P ys → Some P (xs ++ ys)
some_append_right P [] ys p = p
some_append_right P (x ∷ xs) ys p = inr (some_append_right P xs ys p)

pub pairs_append : {A : Type 0} (R : A → A → Type 0) (xs ys : List A) → Pairs R xs → Pairs R ys → All (λ x. All (R x) ys) xs → Pairs R (xs ++ ys)
pairs_append R [] ys p q r = q
pairs_append R (x ∷ xs) ys p q r = (all_append (R x) xs ys p.0 r.0, pairs_append R xs ys p.1 q r.1)

pub append_pairs : {A : Type 0} (R : A → A → Type 0) (xs ys : List A) → Pairs R (xs ++ ys) → Pairs R xs × Pairs R ys × All (λ x. All (R x) ys) xs
append_pairs R [] ys p = (tt, p, tt)
append_pairs R (x ∷ xs) ys p =
    let h = append_pairs R xs ys p.1 in
    let a = append_all (R x) xs ys p.0 in
    ((a.0, h.0), h.1, (a.1, h.2))

-- The same elements, each as often, in another order.
pub data Same {A : Type 0} : List A → List A → Type 0 where
  same_none : Same [] []
  same_one : {x : A} {xs ys : List A} → Same xs ys → Same (x ∷ xs) (x ∷ ys)
  same_two : {x y : A} {xs : List A} → Same (x ∷ y ∷ xs) (y ∷ x ∷ xs)
  same_then : {xs ys zs : List A} → Same xs ys → Same ys zs → Same xs zs

pub same_refl : {A : Type 0} (xs : List A) → Same xs xs
same_refl [] = same_none
same_refl (x ∷ xs) = same_one (same_refl xs)

pub same_sym : {A : Type 0} {xs ys : List A} → Same xs ys → Same ys xs
same_sym same_none = same_none
same_sym (same_one s) = same_one (same_sym s)
same_sym same_two = same_two
same_sym (same_then s t) = same_then (same_sym t) (same_sym s)

pub same_append : {A : Type 0} {xs ys : List A} (zs : List A) → Same xs ys → Same (xs ++ zs) (ys ++ zs)
same_append zs same_none = same_refl zs
same_append zs (same_one s) = same_one (same_append zs s)
same_append zs same_two = same_two
same_append zs (same_then s t) = same_then (same_append zs s) (same_append zs t)

-- an element moved from behind a list to its front
pub same_front_lem : {A : Type 0} (x : A) (xs ys : List A) → Same (xs ++ (x ∷ ys)) (x ∷ (xs ++ ys))
same_front_lem x [] ys = same_refl (x ∷ ys)
same_front_lem x (y ∷ xs) ys = same_then (same_one (same_front_lem x xs ys)) same_two

-- what does not depend on the order

pub same_all : {A : Type 0} {xs ys : List A} (P : A → Type 0) → Same xs ys → All P xs → All P ys
same_all P same_none a = a
same_all P (same_one s) a = (a.0, same_all P s a.1)
same_all P same_two a = (a.1.0, (a.0, a.1.1))
same_all P (same_then s t) a = same_all P t (same_all P s a)

pub same_some : {A : Type 0} {xs ys : List A} (P : A → Type 0) → Same xs ys → Some P xs → Some P ys
same_some P same_none a = a
same_some P (same_one s) (inl a) = inl a
same_some P (same_one s) (inr a) = inr (same_some P s a)
same_some P same_two (inl a) = inr (inl a)
same_some P same_two (inr (inl a)) = inl a
same_some P same_two (inr (inr a)) = inr (inr a)
same_some P (same_then s t) a = same_some P t (same_some P s a)

-- of a relation that goes both ways
pub same_pairs : {A : Type 0} {xs ys : List A} (R : A → A → Type 0) → ((x y : A) → R x y → R y x) → Same xs ys → Pairs R xs → Pairs R ys
same_pairs R back same_none p = p
same_pairs R back (same_one {x = x} s) p = (same_all (R x) s p.0, same_pairs R back s p.1)
same_pairs R back (same_two {x = x} {y = y}) p = ((back x y p.0.0, p.1.0), (p.0.1, p.1.1))
same_pairs R back (same_then s t) p = same_pairs R back t (same_pairs R back s p)

pub same_length : {A : Type 0} {xs ys : List A} → Same xs ys → length xs ≡ length ys
same_length same_none = refl
same_length (same_one s) = ap suc (same_length s)
same_length same_two = refl
same_length (same_then s t) = same_length s ∙ same_length t

pub same_total : {A : Type 0} {xs ys : List A} (f : A → ℕ) → Same xs ys → total f xs ≡ total f ys
same_total f same_none = refl
same_total f (same_one {x = x} s) = ap (λ (n : ℕ). f x + n) (same_total f s)
same_total f (same_two {x = x} {y = y} {xs = xs}) = omega arith
same_total f (same_then s t) = same_total f s ∙ same_total f t

pub same_map : {A B : Type 0} {xs ys : List A} (f : A → B) → Same xs ys → Same (map f xs) (map f ys)
same_map f same_none = same_none
same_map f (same_one s) = same_one (same_map f s)
same_map f same_two = same_two
same_map f (same_then s t) = same_then (same_map f s) (same_map f t)

or_swap : (a b c : Bool) → (a || (b || c)) ≡ (b || (a || c))
or_swap true true c = refl
or_swap true false c = refl
or_swap false true c = refl
or_swap false false c = refl

pub same_test : {A : Type 0} {xs ys : List A} (p : A → Bool) → Same xs ys → some p xs ≡ some p ys
unfolding some
same_test p same_none = refl
same_test p (same_one {x = x} s) = ap (λ (b : Bool). p x || b) (same_test p s)
same_test p (same_two {x = x} {y = y} {xs = xs}) = or_swap (p x) (p y) (some p xs)
same_test p (same_then s t) = same_test p s ∙ same_test p t

-- a fact of each place of a list: of the first, and of those after it

pub each_cons : (P : ℕ → ℕ → Type 0) (x : ℕ) (xs : List ℕ) → P 0 x → ((i : ℕ) → i < length xs → P (suc i) (get_or xs i 0)) → (i : ℕ) → i < length (x ∷ xs) → P i (get_or (x ∷ xs) i 0)
each_cons P x xs p f zero l = p
each_cons P x xs p f (suc i) l = f i (omega arith)

pub every_at : (p : ℕ → Bool) (xs : List ℕ) → every p xs ≡ true → (i : ℕ) → i < length xs → p (get_or xs i 0) ≡ true
unfolding every
every_at p [] e i l = absurd (omega arith)
every_at p (x ∷ xs) e zero l = and_left (p x) (every p xs) e
every_at p (x ∷ xs) e (suc i) l = every_at p xs (and_right (p x) (every p xs) e) i (omega arith)

pub every_but : (p : ℕ → Bool) (xs : List ℕ) → every p xs ≡ false → (i : ℕ) × (i < length xs) × (p (get_or xs i 0) ≡ false)
unfolding every
every_but p [] e = absurd (true≢false e)
every_but p (x ∷ xs) e =
    elim (decided (p x)) [
      | inl h ↦
          elim (decided (every p xs)) [
            | inl k ↦ absurd (true≢false (sym (and_yes (p x) (every p xs) h k) ∙ e))
            | inr k ↦ let (i, l, q) = every_but p xs k in (suc i, omega arith, q)
          ]
      | inr h ↦ (0, omega arith, h)
    ]
