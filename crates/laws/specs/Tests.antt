-- Laws of tests: `pick`, `&&`, `||`, `not`, `every` and `some`.
use Rattle.std.specs.Prelude.{◌≡◌, refl, Bool, true, false, ◌&&◌, ◌||◌, List, [], ◌∷◌, ◌⊎◌, ℕ, ◌≤◌, leb}
use Rattle.std.proofs.Common.{sym, ◌∙◌, true≢false, inl, inr, leb-true, le-leb}
use Rattle.std.proofs.lemmas.Bool.{false≢true}
use Rattle.rules.specs.Basics.{pick, All, Some, Pairs, every, some, every_pair, within}

-- Two answers that meet one contract are equal: each public contract states its answer as one definition's value.
pub same_answer {ℓ} : {A : Type ℓ} {x y a : A} → x ≡ a → y ≡ a → x ≡ y
same_answer p q = p ∙ sym q

pub pick_yes {ℓ} : {A : Type ℓ} (b : Bool) (x y : A) → b ≡ true → pick b x y ≡ x
pick_yes true x y e = refl
pick_yes false x y e = absurd (false≢true e)

pub pick_no {ℓ} : {A : Type ℓ} (b : Bool) (x y : A) → b ≡ false → pick b x y ≡ y
pick_no true x y e = absurd (true≢false e)
pick_no false x y e = refl

-- a test is true or false, with the equation
pub decided : (b : Bool) → (b ≡ true) ⊎ (b ≡ false)
decided true = inl refl
decided false = inr refl

pub and_yes : (a b : Bool) → a ≡ true → b ≡ true → (a && b) ≡ true
and_yes true b p q = q
and_yes false b p q = p

pub and_left : (a b : Bool) → (a && b) ≡ true → a ≡ true
and_left true b e = refl
and_left false b e = e

pub and_right : (a b : Bool) → (a && b) ≡ true → b ≡ true
and_right true b e = e
and_right false b e = absurd (false≢true e)

pub and_no_left : (a b : Bool) → a ≡ false → (a && b) ≡ false
and_no_left true b e = absurd (true≢false e)
and_no_left false b e = refl

pub and_no_right : (a b : Bool) → b ≡ false → (a && b) ≡ false
and_no_right true b e = e
and_no_right false b e = refl

pub or_left : (a b : Bool) → a ≡ true → (a || b) ≡ true
or_left true b e = refl
or_left false b e = absurd (false≢true e)

pub or_right : (a b : Bool) → b ≡ true → (a || b) ≡ true
or_right true b e = refl
or_right false b e = e

pub or_no : (a b : Bool) → a ≡ false → b ≡ false → (a || b) ≡ false
or_no true b p q = p
or_no false b p q = q

pub or_cases : (a b : Bool) → (a || b) ≡ true → (a ≡ true) ⊎ (b ≡ true)
or_cases true b e = inl refl
or_cases false b e = inr e

pub or_no_left : (a b : Bool) → (a || b) ≡ false → a ≡ false
or_no_left true b e = e
or_no_left false b e = refl

pub or_no_right : (a b : Bool) → (a || b) ≡ false → b ≡ false
or_no_right true b e = absurd (true≢false e)
or_no_right false b e = e

pub within_yes : (low high n : ℕ) → low ≤ n → n ≤ high → within low high n ≡ true
unfolding within
within_yes low high n p q = rw (le-leb low n p) (le-leb n high q)

pub within_low : (low high n : ℕ) → within low high n ≡ true → low ≤ n
unfolding within
within_low low high n e = leb-true low n (and_left (leb low n) (leb n high) e)

pub within_high : (low high n : ℕ) → within low high n ≡ true → n ≤ high
unfolding within
within_high low high n e = leb-true n high (and_right (leb low n) (leb n high) e)

-- the tests over a list against the statements: one way, and the other
pub every_all : {A : Type 0} (p : A → Bool) (P : A → Type 0) → ((x : A) → p x ≡ true → P x) → (xs : List A) → every p xs ≡ true → All P xs
unfolding every
every_all p P f [] e = tt
every_all p P f (x ∷ xs) e = (f x (and_left (p x) (every p xs) e), every_all p P f xs (and_right (p x) (every p xs) e))

pub all_every : {A : Type 0} (p : A → Bool) (P : A → Type 0) → ((x : A) → P x → p x ≡ true) → (xs : List A) → All P xs → every p xs ≡ true
unfolding every
all_every p P f [] a = refl
all_every p P f (x ∷ xs) a = rw (f x a.0) (all_every p P f xs a.1)

pub some_one : {A : Type 0} (p : A → Bool) (P : A → Type 0) → ((x : A) → p x ≡ true → P x) → (xs : List A) → some p xs ≡ true → Some P xs
unfolding some
some_one p P f [] e = absurd (false≢true e)
some_one p P f (x ∷ xs) e = elim (or_cases (p x) (some p xs) e) [ inl h ↦ inl (f x h) | inr h ↦ inr (some_one p P f xs h) ]

pub one_some : {A : Type 0} (p : A → Bool) (P : A → Type 0) → ((x : A) → P x → p x ≡ true) → (xs : List A) → Some P xs → some p xs ≡ true
unfolding some
one_some p P f [] s = absurd s
one_some p P f (x ∷ xs) (inl h) = or_left (p x) (some p xs) (f x h)
one_some p P f (x ∷ xs) (inr h) = or_right (p x) (some p xs) (one_some p P f xs h)

pub every_pair_pairs : {A : Type 0} (p : A → A → Bool) (P : A → A → Type 0) → ((x y : A) → p x y ≡ true → P x y) → (xs : List A) → every_pair p xs ≡ true → Pairs P xs
unfolding every_pair
every_pair_pairs p P f [] e = tt
every_pair_pairs p P f (x ∷ xs) e = (every_all (p x) (P x) (f x) xs (and_left (every (p x) xs) (every_pair p xs) e), every_pair_pairs p P f xs (and_right (every (p x) xs) (every_pair p xs) e))

pub pairs_every_pair : {A : Type 0} (p : A → A → Bool) (P : A → A → Type 0) → ((x y : A) → P x y → p x y ≡ true) → (xs : List A) → Pairs P xs → every_pair p xs ≡ true
unfolding every_pair
pairs_every_pair p P f [] a = refl
pairs_every_pair p P f (x ∷ xs) a = rw (all_every (p x) (P x) (f x) xs a.0) (pairs_every_pair p P f xs a.1)

pub map_all : {A : Type 0} (P Q : A → Type 0) → ((x : A) → P x → Q x) → (xs : List A) → All P xs → All Q xs
map_all P Q f [] a = tt
map_all P Q f (x ∷ xs) a = (f x a.0, map_all P Q f xs a.1)
