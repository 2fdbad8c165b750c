-- The rows of a table by their places: row i, counted from 0.
use Rattle.std.specs.Prelude.{◌≡◌, refl, List, [], ◌∷◌, ℕ, zero, suc, ◌+◌, ◌*◌, ◌-◌, ◌<◌, take, drop}
use Rattle.std.proofs.Common.{ap, ◌∙◌, arith, add-zero, zero-add, drop-drop}
use Rattle.std.proofs.Math.Nat.{add-sub_cancel_left}
use Rattle.tablerows.specs.Chunks.{first_four}
use Rattle.rules.specs.Basics.{All}
use Rattle.rules.specs.Plans.{Row, first_row, rows_of}

unfoldable pub row_at : List ℕ → ℕ → Row
row_at table i = first_row (drop (4 * i) table)

-- k rows from row i on
unfoldable pub rows_from : List ℕ → ℕ → ℕ → List Row
rows_from table i zero = []
rows_from table i (suc k) = row_at table i ∷ rows_from table (suc i) k

four_more : (i : ℕ) → 4 * i + 4 ≡ 4 * suc i
four_more i = omega arith

of_from : (table : List ℕ) (i k : ℕ) → rows_of k (drop (4 * i) table) ≡ rows_from table i k
unfolding rows_of rows_from row_at
of_from table i zero = refl
of_from table i (suc k) =
    ap (λ (rs : List Row). first_row (drop (4 * i) table) ∷ rs)
    (ap (rows_of k) (drop-drop 4 (4 * i) table ∙ ap (λ (n : ℕ). drop n table) (four_more i)) ∙ of_from table (suc i) k)

pub rows_from_lem : (table : List ℕ) (k : ℕ) → rows_of k table ≡ rows_from table 0 k
rows_from_lem table k = of_from table 0 k

-- what holds of all rows holds of each
from_each : (P : Row → Type 0) (table : List ℕ) (i k : ℕ) → All P (rows_from table i k) → (j : ℕ) → j < k → P (row_at table (i + j))
unfolding rows_from
from_each P table i zero a j h = absurd (omega arith)
from_each P table i (suc k) a zero h = rw add-zero a.0
from_each P table i (suc k) a (suc j) h = let e : suc i + j ≡ i + suc j = omega arith in rw e at (from_each P table (suc i) k a.1 j (omega arith))

pub each_row : (P : Row → Type 0) (table : List ℕ) (k : ℕ) → All P (rows_of k table) → (i : ℕ) → i < k → P (row_at table i)
each_row P table k a i h = rw zero-add at (from_each P table 0 k (rw (rows_from_lem table k) at a) i h)

-- a row that is read by its place
pub row_read : (table : List ℕ) (i : ℕ) → first_row (take (4 * i + 4 - 4 * i) (drop (4 * i) table)) ≡ row_at table i
unfolding row_at
row_read table i = ap (λ (n : ℕ). first_row (take n (drop (4 * i) table))) (add-sub_cancel_left (4 * i) 4) ∙ first_four (drop (4 * i) table)
