-- Words that every definition uses, and the limits, each named once.
use Rattle.std.specs.Prelude.{Bool, true, false, ◌&&◌, ◌||◌, ◌⊎◌, List, [], ◌∷◌, ℕ, replicate, leb}
use Prim.Native.Char.{code}
use Prim.Native.String as Text

-- the first where the test holds, else the second
abbrev pub pick {ℓ} : {A : Type ℓ} → Bool → A → A → A
pick true a b = a
pick false a b = b

abbrev pub is_empty {ℓ} : {A : Type ℓ} → List A → Bool
is_empty [] = true
is_empty (x ∷ xs) = false

-- a fact of each element; of some element; of each two elements, the one that stands first first
abbrev pub All : {A : Type 0} → (A → Type 0) → List A → Type 0
All P [] = Unit {0}
All P (x ∷ xs) = P x × All P xs

abbrev pub Some : {A : Type 0} → (A → Type 0) → List A → Type 0
Some P [] = ⊥
Some P (x ∷ xs) = P x ⊎ Some P xs

abbrev pub Pairs : {A : Type 0} → (A → A → Type 0) → List A → Type 0
Pairs R [] = Unit {0}
Pairs R (x ∷ xs) = All (R x) xs × Pairs R xs

-- the same as tests that compute
unfoldable pub every : {A : Type 0} → (A → Bool) → List A → Bool
every p [] = true
every p (x ∷ xs) = p x && every p xs

unfoldable pub some : {A : Type 0} → (A → Bool) → List A → Bool
some p [] = false
some p (x ∷ xs) = p x || some p xs

unfoldable pub every_pair : {A : Type 0} → (A → A → Bool) → List A → Bool
every_pair r [] = true
every_pair r (x ∷ xs) = every (r x) xs && every_pair r xs

unfoldable pub within : ℕ → ℕ → ℕ → Bool
within low high n = leb low n && leb n high

-- the bytes of a text
abbrev pub text : Text.String → List ℕ
text Text.[] = []
text (Text.◌∷◌ c cs) = code c ∷ text cs

abbrev pub zeros : ℕ → List ℕ
zeros n = replicate n 0

-- The limits: "Boards run to 64"; "work and due to 1,000,000"; "a 1,001st job"; "level 32 is the deepest";
-- "A number is 1 to 7 digits"; "a file over 65,536 bytes"; "over 2,000 rows"
abbrev pub most_boards : ℕ
most_boards = 64

abbrev pub most_minutes : ℕ
most_minutes = 1000000

abbrev pub most_jobs : ℕ
most_jobs = 1000

abbrev pub most_levels : ℕ
most_levels = 32

abbrev pub most_digits : ℕ
most_digits = 7

abbrev pub most_bytes : ℕ
most_bytes = 65536

abbrev pub most_rows : ℕ
most_rows = 2000
