-- The tokens of an order file, each with the place of its first byte.
use Rattle.std.specs.Prelude.{Bool, true, false, not, ◌&&◌, ◌||◌, List, [], ◌∷◌, ◌++◌, ℕ, suc, ◌+◌, ◌*◌, ◌-◌, length, get_or, eqb}
use Rattle.rules.specs.declared.Word.{Word}
use Rattle.rules.specs.declared.Word.TheVariants.{Order, Group, Job, Number, Other}
use Rattle.rules.specs.declared.Token.{Token}
use Rattle.rules.specs.declared.Token.TheVariants.{Open, Close, Atom, End, Foreign}
use Rattle.rules.specs.Basics.{pick, is_empty, every, within, text, most_digits}

-- "A file holds small letters a to z, digits, brackets, spaces (32) and line feeds (10)"
unfoldable pub is_digit : ℕ → Bool
is_digit b = within 48 57 b

unfoldable pub is_letter_or_digit : ℕ → Bool
is_letter_or_digit b = within 97 122 b || is_digit b

unfoldable pub is_blank : ℕ → Bool
is_blank b = eqb b 32 || eqb b 10

-- "A number is 1 to 7 digits, the first not 0"
unfoldable pub is_number : List ℕ → Bool
is_number w = within 1 most_digits (length w) && (every is_digit w && not (eqb (get_or w 0 0) 48))

unfoldable pub value_from : ℕ → List ℕ → ℕ
value_from n [] = n
value_from n (b ∷ w) = value_from (n * 10 + (b - 48)) w

-- the same bytes
unfoldable pub same : List ℕ → List ℕ → Bool
same [] [] = true
same [] (y ∷ ys) = false
same (x ∷ xs) [] = false
same (x ∷ xs) (y ∷ ys) = eqb x y && same xs ys

-- an atom by kind
unfoldable pub kind : List ℕ → Word
kind w =
    pick (same w (text "order")) Order
    (pick (same w (text "group")) Group
    (pick (same w (text "job")) Job
    (pick (is_number w) (Number (value_from 0 w)) Other)))

pub record Placed : Type 0 where
  pub token : Token
  pub place : ℕ

-- what stands between two atoms: a byte of a kind of its own, and then the tokens after it
unfoldable pub between : ℕ → ℕ → List Placed → List Placed
between at b rest =
    pick (is_blank b) rest
    (pick (eqb b 40) (record { token = Open; place = at } ∷ rest)
    (pick (eqb b 41) (record { token = Close; place = at } ∷ rest)
    (record { token = Foreign; place = at } ∷ [])))

-- the atom read so far, if there is one, and then the tokens after it
unfoldable pub closing : ℕ → List ℕ → List Placed → List Placed
closing place [] rest = rest
closing place (b ∷ w) rest = record { token = Atom (kind (b ∷ w)); place = place } ∷ rest

-- "An atom is a longest run of letters and digits ... Blanks only part tokens": the tokens from the byte at `at` on, where
-- `word`, which began at `place`, is the atom read so far, empty outside atoms. They end with the end or a foreign byte.
unfoldable pub tokens_from : ℕ → List ℕ → ℕ → List ℕ → List Placed
tokens_from place word at [] = closing place word (record { token = End; place = at } ∷ [])
tokens_from place word at (b ∷ bs) =
    let longer = tokens_from (pick (is_empty word) at place) (word ++ (b ∷ [])) (suc at) bs in
    let after = tokens_from 0 [] (suc at) bs in
    pick (is_letter_or_digit b) longer (closing place word (between at b after))

unfoldable pub tokens : List ℕ → List Placed
tokens file = tokens_from 0 [] 0 file
