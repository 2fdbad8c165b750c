-- What the lexer's functions say of the tokens from a place on.
use Rattle.std.specs.Prelude.{◌≡◌, Bool, true, false, List, [], ◌∷◌, ℕ, ◌-◌, ◌≤◌, ◌<◌, max, length, take, drop, get_or}
use Rattle.rules.specs.declared.Token.{Token}
use Rattle.rules.specs.declared.Token.TheVariants.{Open, Close, Atom, End, Foreign}
use Rattle.rules.specs.Tokens.{Placed, is_blank, kind, tokens_from}
use Rattle.lexer.specs.declared.Seen.{Seen}

-- the tokens of a file from the place `at` on
unfoldable pub tokens_at : List ℕ → ℕ → List Placed
tokens_at s at = tokens_from 0 [] at (drop at s)

-- no token stands behind the end or a foreign byte
unfoldable pub is_last : Token → Bool
is_last End = true
is_last Foreign = true
is_last Open = false
is_last Close = false
is_last (Atom w) = false

unfoldable pub behind : Token → List Placed → List Placed
behind End more = []
behind Foreign more = []
behind Open more = more
behind Close more = more
behind (Atom w) more = more

abbrev pub placed : Token → ℕ → Placed
placed t p = record { token = t; place = p }

-- The first of the tokens from `at` on is the one seen, and the others are those from `next` on.
pub record NextToken (s : List ℕ) (at : ℕ) (r : Seen) : Type 0 where
  pub tells : tokens_at s at ≡ placed r.token r.place ∷ behind r.token (tokens_at s r.next)
  pub moves : is_last r.token ≡ false → at < r.next
  pub inside : at ≤ length s → (r.place ≤ length s) × (r.next ≤ length s)

-- From r on there are the same tokens as from `at` on, and at r there is no blank.
pub record BlanksSkipped (s : List ℕ) (at r : ℕ) : Type 0 where
  pub same_tokens : tokens_at s at ≡ tokens_at s r
  pub onward : at ≤ r
  pub inside : at ≤ length s → r ≤ length s
  pub no_blank : r < length s → is_blank (get_or s r 0) ≡ false

-- The atom that starts at `from` ends before r.
pub record AtomRead (s : List ℕ) (from r : ℕ) : Type 0 where
  pub tells : tokens_at s from ≡ placed (Atom (kind (take (r - from) (drop from s)))) from ∷ tokens_at s r
  pub onward : from < r
  pub inside : r ≤ length s

-- From `at` up to r each byte meets the test, and the byte at r, if there is one, does not; a place beyond the file stays.
pub record RunEnd (test : ℕ → Bool → Type 0) (s : List ℕ) (at r : ℕ) : Type 0 where
  pub onward : at ≤ r
  pub inside : r ≤ max at (length s)
  pub met : (k : ℕ) → at ≤ k → k < r → test (get_or s k 0) true
  pub ended : r < length s → test (get_or s r 0) false
