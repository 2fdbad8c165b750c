-- The rest of a table, lent for the next rows: what it is, and what the table is when it comes back.
use Rattle.std.specs.Prelude.{◌≡◌, refl, List, [], ◌∷◌, ◌++◌, ℕ, ◌+◌, ◌*◌, ◌-◌, length, take, drop}
use Rattle.std.proofs.Common.{sym, ◌∙◌, ap, arith, length-append, append_assoc, append-nil, take_at, drop_of_length-le}
use Rattle.std.proofs.lemmas.List.{take_rest, drop-drop, length-drop}
use Rattle.std.proofs.Math.Seq.{drop-append_seam}
use borrow.Rule.Slice.PartMut.{put_mid}
use Rattle.rules.specs.Plans.{Row, numbers_of}
use Rattle.placing.specs.Rows.{with_rows}

numbers-append : (rows new : List Row) → numbers_of (rows ++ new) ≡ numbers_of rows ++ numbers_of new
unfolding numbers_of
numbers-append [] new = refl
numbers-append (r ∷ rows) new = ap (λ (l : List ℕ). r.board ∷ r.job ∷ r.from ∷ r.to ∷ l) (numbers-append rows new)

length-numbers : (rows : List Row) → length (numbers_of rows) ≡ 4 * length rows
unfolding numbers_of
length-numbers [] = refl
length-numbers (r ∷ rows) = omega (arith, length-numbers rows)

-- the rest behind `n`, as written
put_rest : (table rest : List ℕ) (n : ℕ) → put_mid n (length table - n) table rest ≡ take n table ++ rest
put_rest table rest n =
    ap (λ (l : List ℕ). take n table ++ (rest ++ l))
    (drop_of_length-le (drop n table) {i = length table - n} (omega (arith, length-drop n table)))
    ∙ ap (λ (l : List ℕ). take n table ++ l) (append-nil rest)

module _ (rows : List Row) (table : List ℕ) where
  pub rows_front : take (4 * length rows) (with_rows rows table) ≡ numbers_of rows
  rows_front = take_at (numbers_of rows) (drop (4 * length rows) table) (4 * length rows) (length-numbers rows)

  rows_rest : drop (4 * length rows) (with_rows rows table) ≡ drop (4 * length rows) table
  rows_rest = ap (λ (n : ℕ). drop n (with_rows rows table)) (sym (length-numbers rows))
      ∙ drop-append_seam (numbers_of rows) (drop (4 * length rows) table)

  -- rows at the front of the rest stand behind those at the table's front
  pub rows_behind : (new : List Row) →
      let n = 4 * length rows in
      let t = with_rows rows table in
      put_mid n (length t - n) t (with_rows new (take (length t - n) (drop n t))) ≡ with_rows (rows ++ new) table
  rows_behind new =
      let n : ℕ = 4 * length rows in
      let t : List ℕ = with_rows rows table in
      let all : n + 4 * length new ≡ 4 * length (rows ++ new) = omega (arith, length-append rows new) in
      put_rest t (with_rows new (take (length t - n) (drop n t))) n
      ∙ ap (λ (l : List ℕ). l ++ with_rows new (take (length t - n) (drop n t))) rows_front
      ∙ ap (λ (l : List ℕ). numbers_of rows ++ with_rows new l) (take_rest t n ∙ rows_rest)
      ∙ ap (λ (l : List ℕ). numbers_of rows ++ (numbers_of new ++ l)) (drop-drop (4 * length new) n table)
      ∙ sym (append_assoc (numbers_of rows) (numbers_of new) (drop (n + 4 * length new) table))
      ∙ ap (λ (l : List ℕ). l ++ drop (n + 4 * length new) table) (sym (numbers-append rows new))
      ∙ ap (λ (k : ℕ). numbers_of (rows ++ new) ++ drop k table) all
