-- Rows in the order of the minutes in which they begin: it is enough to compare each with the last end on its board and
-- the last end of its job.
use Rattle.std.specs.Prelude.{◌≡◌, refl, Bool, true, false, ◌&&◌, List, [], ◌∷◌, ℕ, ◌≤◌, ◌<◌, length, get_or, set, leb, eqb}
use Rattle.std.proofs.Common.{sym, ap, ◌∙◌, inl, inr, arith, length-set, get_or-set_same, get_or-set_other, leb-true, le-leb, eqb-true}
use Rattle.std.proofs.lemmas.Bool.{false≢true, eqb-false}
use Rattle.rules.specs.Basics.{pick, All, Pairs, every_pair, zeros}
use Rattle.rules.specs.Plans.{Row, Apart, pair_good}
use Rattle.laws.specs.Tests.{pick_yes, pick_no, decided, and_yes, and_left, and_right, every_pair_pairs, pairs_every_pair}
use Rattle.theory.specs.Test.{PairGood, yes_pair_good, pair_good_yes}
use Rattle.checker.specs.Minutes.{zero_at}

-- the row begins at or after the last end on its board, and the last end of its job
unfoldable pub clear : List ℕ → List ℕ → Row → Bool
clear on_board of_job r = leb (get_or on_board r.board 0) r.from && leb (get_or of_job r.job 0) r.from

-- row by row, with the last ends so far
unfoldable pub in_turn : List ℕ → List ℕ → List Row → Bool
in_turn on_board of_job [] = true
in_turn on_board of_job (r ∷ rs) =
    let later = in_turn (set on_board r.board r.to) (set of_job r.job r.to) rs in
    pick (clear on_board of_job r) later false

pub turn_yes : (on_board of_job : List ℕ) (r : Row) (rs : List Row) → clear on_board of_job r ≡ true → in_turn on_board of_job (r ∷ rs) ≡ in_turn (set on_board r.board r.to) (set of_job r.job r.to) rs
unfolding in_turn
turn_yes on_board of_job r rs e = pick_yes (clear on_board of_job r) _ _ e

pub turn_no : (on_board of_job : List ℕ) (r : Row) (rs : List Row) → clear on_board of_job r ≡ false → in_turn on_board of_job (r ∷ rs) ≡ false
unfolding in_turn
turn_no on_board of_job r rs e = pick_no (clear on_board of_job r) _ _ e

-- a row that the two lists of ends know, and that has minutes
pub record Known (boards jobs : ℕ) (r : Row) : Type 0 where
  pub board : r.board < boards
  pub job : r.job < jobs
  pub minutes : r.from < r.to

-- the same for one list of ends, by what the rows are compared by: r was passed, and s comes later

abbrev Clear : List ℕ → ℕ → Row → Type 0
Clear ends k s = get_or ends k 0 ≤ s.from

clear_later : (ends : List ℕ) (i k : ℕ) (r s : Row) → i < length ends → r.from ≤ s.from → Clear ends i r → Clear (set ends i r.to) k s → Clear ends k s × (i ≡ k → Apart r s)
clear_later ends i k r s h o before c =
    elim (decided (eqb k i)) [
      | inl e ↦
          let at : k ≡ i = eqb-true k i e in
          let past : r.to ≤ s.from = omega (arith, ap (λ (n : ℕ). get_or (set ends i r.to) n 0) at, get_or-set_same ends i r.to 0 h) in
          (omega (arith, ap (λ (n : ℕ). get_or ends n 0) at), λ _. inl past)
      | inr e ↦ (omega (arith, get_or-set_other ends i k r.to 0 (eqb-false k i e)), λ q. absurd (eqb-false k i e (sym q)))
    ]

later_clear : (ends : List ℕ) (i k : ℕ) (r s : Row) → i < length ends → r.from ≤ s.from → s.from < s.to → Clear ends k s → (i ≡ k → Apart r s) → Clear (set ends i r.to) k s
later_clear ends i k r s h o m c a =
    elim (decided (eqb k i)) [
      | inl e ↦
          let at : k ≡ i = eqb-true k i e in
          elim (a (sym at)) [
            | inl q ↦ omega (arith, ap (λ (n : ℕ). get_or (set ends i r.to) n 0) at, get_or-set_same ends i r.to 0 h)
            | inr q ↦ absurd (omega arith)
          ]
      | inr e ↦ omega (arith, get_or-set_other ends i k r.to 0 (eqb-false k i e))
    ]

-- the two lists together

pub record Free (on_board of_job : List ℕ) (r : Row) : Type 0 where
  pub board : Clear on_board r.board r
  pub job : Clear of_job r.job r

free : (on_board of_job : List ℕ) (r : Row) → clear on_board of_job r ≡ true → Free on_board of_job r
unfolding clear
free on_board of_job r e = record {
  board = leb-true (get_or on_board r.board 0) r.from (and_left (leb (get_or on_board r.board 0) r.from) (leb (get_or of_job r.job 0) r.from) e);
  job = leb-true (get_or of_job r.job 0) r.from (and_right (leb (get_or on_board r.board 0) r.from) (leb (get_or of_job r.job 0) r.from) e);
}

pub free_clear : (on_board of_job : List ℕ) (r : Row) → Free on_board of_job r → clear on_board of_job r ≡ true
unfolding clear
free_clear on_board of_job r f =
    and_yes (leb (get_or on_board r.board 0) r.from) (leb (get_or of_job r.job 0) r.from) (le-leb (get_or on_board r.board 0) r.from f.board) (le-leb (get_or of_job r.job 0) r.from f.job)

abbrev pub Ordered : List Row → Type 0
Ordered rs = Pairs (λ r s. r.from ≤ s.from) rs

-- row r before each of the rows behind it: from the later ends to the earlier, and back

peel : (b j : List ℕ) (r : Row) (rs : List Row) → Known (length b) (length j) r → All (λ s. r.from ≤ s.from) rs → Free b j r → All (Free (set b r.board r.to) (set j r.job r.to)) rs → All (Free b j) rs × All (PairGood r) rs
peel b j r [] k o f a = (tt, tt)
peel b j r (s ∷ rs) k o f a =
    let on_board = clear_later b r.board s.board r s k.board o.0 f.board a.0.board in
    let of_job = clear_later j r.job s.job r s k.job o.0 f.job a.0.job in
    let more = peel b j r rs k o.1 f a.1 in
    ((record { board = on_board.0; job = of_job.0 }, more.0), (record { board = on_board.1; job = of_job.1 }, more.1))

layer : (b j : List ℕ) (r : Row) (rs : List Row) → Known (length b) (length j) r → All (Known (length b) (length j)) rs → All (λ s. r.from ≤ s.from) rs → All (Free b j) rs → All (PairGood r) rs → All (Free (set b r.board r.to) (set j r.job r.to)) rs
layer b j r [] k ks o f g = tt
layer b j r (s ∷ rs) k ks o f g = (
  record {
    board = later_clear b r.board s.board r s k.board o.0 ks.0.minutes f.0.board g.0.board;
    job = later_clear j r.job s.job r s k.job o.0 ks.0.minutes f.0.job g.0.job;
  },
  layer b j r rs k ks.1 o.1 f.1 g.1,
)

kept : (b j : List ℕ) (r : Row) (rs : List Row) → All (Known (length b) (length j)) rs → All (Known (length (set b r.board r.to)) (length (set j r.job r.to))) rs
kept b j r rs k = rw (length-set b r.board r.to, length-set j r.job r.to) k

pub turn_pairs : (b j : List ℕ) (rs : List Row) → All (Known (length b) (length j)) rs → Ordered rs → in_turn b j rs ≡ true → All (Free b j) rs × Pairs PairGood rs
unfolding in_turn
turn_pairs b j [] k o e = (tt, tt)
turn_pairs b j (r ∷ rs) k o e =
    elim (decided (clear b j r)) [
      | inr c ↦ absurd (false≢true (sym (turn_no b j r rs c) ∙ e))
      | inl c ↦
          let rest = turn_pairs (set b r.board r.to) (set j r.job r.to) rs (kept b j r rs k.1) o.1 (sym (turn_yes b j r rs c) ∙ e) in
          let both = peel b j r rs k.0 o.0 (free b j r c) rest.0 in
          ((free b j r c, both.0), (both.1, rest.1))
    ]

pub pairs_turn : (b j : List ℕ) (rs : List Row) → All (Known (length b) (length j)) rs → Ordered rs → All (Free b j) rs → Pairs PairGood rs → in_turn b j rs ≡ true
unfolding in_turn
pairs_turn b j [] k o f p = refl
pairs_turn b j (r ∷ rs) k o f p =
    turn_yes b j r rs (free_clear b j r f.0)
    ∙ pairs_turn (set b r.board r.to) (set j r.job r.to) rs (kept b j r rs k.1) o.1 (layer b j r rs k.0 k.1 o.0 f.1 p.0) p.1

-- at first every end is 0
free_at_first : (m n : ℕ) (rs : List Row) → All (Free (zeros m) (zeros n)) rs
free_at_first m n [] = tt
free_at_first m n (r ∷ rs) = (record { board = omega (arith, zero_at m r.board); job = omega (arith, zero_at n r.job) }, free_at_first m n rs)

pub same_truth : (a b : Bool) → (a ≡ true → b ≡ true) → (b ≡ true → a ≡ true) → a ≡ b
same_truth true b f g = sym (f refl)
same_truth false true f g = g refl
same_truth false false f g = refl

pub in_turn_lem : (m n : ℕ) (rs : List Row) → All (Known (length (zeros m)) (length (zeros n))) rs → Ordered rs → in_turn (zeros m) (zeros n) rs ≡ every_pair pair_good rs
in_turn_lem m n rs k o =
    same_truth (in_turn (zeros m) (zeros n) rs) (every_pair pair_good rs)
    (λ e. pairs_every_pair pair_good PairGood pair_good_yes rs (turn_pairs (zeros m) (zeros n) rs k o e).1)
    (λ e. pairs_turn (zeros m) (zeros n) rs k o (free_at_first m n rs) (every_pair_pairs pair_good PairGood yes_pair_good rs e))
