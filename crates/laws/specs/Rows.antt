-- Laws of rows in a table.
use Rattle.std.specs.Prelude.{◌≡◌, refl, List, ℕ, zero, suc, length, drop}
use Rattle.std.proofs.Common.{ap}
use Rattle.rules.specs.Plans.{rows_of}

pub length_rows_of : (k : ℕ) (t : List ℕ) → length (rows_of k t) ≡ k
unfolding rows_of
length_rows_of zero t = refl
length_rows_of (suc k) t = ap suc (length_rows_of k (drop 4 t))
