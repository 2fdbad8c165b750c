-- Rows as chunks of four numbers: which rows a list of numbers is, and that its chunks are these rows, one by one.
use Rattle.std.specs.Prelude.{◌≡◌, refl, None, Some, List, [], ◌∷◌, ◌++◌, ℕ, zero, suc, ◌+◌, ◌*◌, ◌/◌, ◌≤◌, ◌<◌, length, take, drop}
use Rattle.std.specs.Borrow.{Bor}
use Rattle.std.specs.declared.slice.ChunksExact.{ChunksExact}
use Rattle.std.specs.Slice.Iter.{chunks_exact_rest, chunks_exact_size, chunks_exact_steps}
use Rattle.std.proofs.Common.{length-append, sym, ap, ap₂, ◌∙◌, arith, length-take-le}
use Rattle.std.proofs.Math.Seq.{take-nil}
use Rattle.std.proofs.lemmas.Iterator.{YieldsList}
use Rattle.std.proofs.lemmas.Iterator.Splits.{YieldsList-from_shown_while}
use Rattle.laws.specs.Rows.{length_rows_of}
use Rattle.rules.specs.Plans.{Row, first_row, rows_of}

-- the rows of a list that is four numbers a row
unfoldable pub rows_in : List ℕ → List Row
rows_in numbers = rows_of (length numbers / 4) numbers

pub rows_in-end : (l : List ℕ) → length l < 4 → rows_in l ≡ []
unfolding rows_in rows_of
rows_in-end l h = ap (λ (n : ℕ). rows_of n l) (none (length l) h)
  where
    none : (n : ℕ) → n < 4 → n / 4 ≡ 0
    none n h = omega arith

pub first_of : (x l : List ℕ) → length x ≡ 4 → (first_row (x ++ l) ≡ first_row x) × (drop 4 (x ++ l) ≡ l)
unfolding first_row
first_of [] l h = absurd (omega arith)
first_of (a ∷ []) l h = absurd (omega arith)
first_of (a ∷ b ∷ []) l h = absurd (omega arith)
first_of (a ∷ b ∷ c ∷ []) l h = absurd (omega arith)
first_of (a ∷ b ∷ c ∷ d ∷ []) l h = (refl, refl)
first_of (a ∷ b ∷ c ∷ d ∷ e ∷ x) l h = absurd (omega arith)

pub rows_in-more : (x l : List ℕ) → length x ≡ 4 → rows_in (x ++ l) ≡ first_row x ∷ rows_in l
unfolding rows_in rows_of
rows_in-more x l h =
    let f = first_of x l h in
    ap (λ (n : ℕ). rows_of n (x ++ l)) (one_more (length (x ++ l)) (length l) (omega (arith, length-append x l)))
    ∙ ap₂ (λ (r : Row) (m : List ℕ). r ∷ rows_of (length l / 4) m) f.0 f.1
  where
    one_more : (n k : ℕ) → n ≡ 4 + k → n / 4 ≡ suc (k / 4)
    one_more n k h = omega arith

pub length-rows_in : (l : List ℕ) → length (rows_in l) ≡ length l / 4
unfolding rows_in
length-rows_in l = length_rows_of (length l / 4) l

-- the first rows of a table
first_taken : (n : ℕ) (t : List ℕ) → first_row (take (suc (suc (suc (suc n)))) t) ≡ first_row t
unfolding first_row
first_taken n [] = refl
first_taken n (a ∷ []) = refl
first_taken n (a ∷ b ∷ []) = refl
first_taken n (a ∷ b ∷ c ∷ []) = refl
first_taken n (a ∷ b ∷ c ∷ d ∷ t) = refl

later_taken : (n : ℕ) (t : List ℕ) → drop 4 (take (suc (suc (suc (suc n)))) t) ≡ take n (drop 4 t)
later_taken n [] = sym (take-nil n)
later_taken n (a ∷ []) = sym (take-nil n)
later_taken n (a ∷ b ∷ []) = sym (take-nil n)
later_taken n (a ∷ b ∷ c ∷ []) = sym (take-nil n)
later_taken n (a ∷ b ∷ c ∷ d ∷ t) = refl

four_more : (k : ℕ) → 4 * suc k ≡ suc (suc (suc (suc (4 * k))))
four_more k = omega arith

pub first_four : (t : List ℕ) → first_row (take 4 t) ≡ first_row t
first_four t = first_taken 0 t

taken : (k : ℕ) (t : List ℕ) → rows_of k (take (4 * k) t) ≡ rows_of k t
unfolding rows_of
taken zero t = refl
taken (suc k) t =
    ap (λ (n : ℕ). rows_of (suc k) (take n t)) (four_more k)
    ∙ ap₂ (λ (r : Row) (rows : List Row). r ∷ rows) (first_taken (4 * k) t) (ap (rows_of k) (later_taken (4 * k) t) ∙ taken k (drop 4 t))

pub rows_in-taken : (k : ℕ) (t : List ℕ) → k ≤ length t / 4 → rows_in (take (4 * k) t) ≡ rows_of k t
unfolding rows_in
rows_in-taken k t h =
    ap (λ (n : ℕ). rows_of n (take (4 * k) t)) (ap (λ (n : ℕ). n / 4) (length-take-le (4 * k) t (omega arith)) ∙ quarter k) ∙ taken k t
  where
    quarter : (k : ℕ) → 4 * k / 4 ≡ k
    quarter k = omega arith

-- one turn of a loop over the chunks, and its end
pub rows_turn : (s t : ChunksExact ℕ) (x : Bor (List ℕ)) → chunks_exact_steps s (Some x) t → chunks_exact_size s ≡ 4 → rows_in (chunks_exact_rest s) ≡ first_row x.now ∷ rows_in (chunks_exact_rest t)
rows_turn s t x h p = ap rows_in h.1.0 ∙ rows_in-more x.now (chunks_exact_rest t) (h.1.1 ∙ p)

pub rows_stop : (s t : ChunksExact ℕ) → chunks_exact_steps s None t → chunks_exact_size s ≡ 4 → rows_in (chunks_exact_rest s) ≡ []
rows_stop s t h p = rows_in-end (chunks_exact_rest s) (omega (arith, h.1.0))

-- the chunks of four numbers are the rows, one by one
pub row_chunks : (l : List ℕ) (s : ChunksExact ℕ) → chunks_exact_rest s ≡ l → chunks_exact_size s ≡ 4 → YieldsList chunks_exact_steps (λ x. first_row x.now) s (rows_in l)
row_chunks l s r e =
    rw (← r)
    (YieldsList-from_shown_while chunks_exact_steps (λ x. first_row x.now) (λ (t : ChunksExact ℕ). rows_in (chunks_exact_rest t)) (λ (t : ChunksExact ℕ). chunks_exact_size t ≡ 4)
    (λ t u p h. ap length (rows_stop t u h p))
    (λ t x u p h. (h.0 ∙ p, rows_turn t u x h p))
    s e)
