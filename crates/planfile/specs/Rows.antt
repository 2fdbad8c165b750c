-- A row of a row part, as the four numbers that the decoder answers.
use Rattle.std.specs.Prelude.{◌≡◌, refl, List, ℕ, ◌+◌, ◌*◌, ◌/◌, ◌≤◌, length, take, drop}
use Rattle.std.proofs.Common.{sym, ap, ◌∙◌, arith, drop_of_length-le, drop-drop}
use Rattle.rules.specs.Plans.{Row}
use Rattle.rules.specs.PlanFiles.{value_of, decode_row, part_of}
use Rattle.rules.specs.declared.TableRow.{TableRow}
use Rattle.planfile.specs.Parts.{part_whole}

unfoldable pub table_row : Row → TableRow
table_row r = record { board = r.board; job = r.job; from = r.from; to = r.to }

-- row i of a row part, counted from 0
unfoldable pub row_at : List ℕ → ℕ → Row
row_at part i = decode_row (drop (12 * i) part)

-- the number of so many bytes at an offset within a row
pub field : (part : List ℕ) (at k n x : ℕ) → x ≡ value_of (take n (drop (at + k) part)) → x ≡ value_of (take n (drop k (drop at part)))
field part at k n x e = e ∙ ap (λ (l : List ℕ). value_of (take n l)) (sym (drop-drop k at part))

abbrev four : ℕ → ℕ → ℕ → ℕ → TableRow
four b j f t = record { board = b; job = j; from = f; to = t }

pub decoded : (part : List ℕ) (i b j f t : ℕ)
    → b ≡ value_of (take 2 (drop (12 * i) part))
    → j ≡ value_of (take 2 (drop (12 * i + 2) part))
    → f ≡ value_of (take 4 (drop (12 * i + 4) part))
    → t ≡ value_of (take 4 (drop (12 * i + 8) part))
    → four b j f t ≡ table_row (row_at part i)
unfolding table_row row_at decode_row
decoded part i b j f t p q r s =
    ap (λ (n : ℕ). four n j f t) p
    ∙ ap (λ (n : ℕ). four (value_of (take 2 (drop (12 * i) part))) n f t) (field part (12 * i) 2 2 j q)
    ∙ ap (λ (n : ℕ). four (value_of (take 2 (drop (12 * i) part))) (value_of (take 2 (drop 2 (drop (12 * i) part)))) n t) (field part (12 * i) 4 4 f r)
    ∙ ap (λ (n : ℕ). four (value_of (take 2 (drop (12 * i) part))) (value_of (take 2 (drop 2 (drop (12 * i) part)))) (value_of (take 4 (drop 4 (drop (12 * i) part)))) n) (field part (12 * i) 8 4 t s)

-- behind the last row nothing stands
pub none_behind : (file : List ℕ) (i : ℕ) → length (part_of file) / 12 ≤ i → four 0 0 0 0 ≡ table_row (row_at (part_of file) i)
unfolding table_row row_at decode_row value_of
none_behind file i h =
    let w = part_whole file in
    rw (drop_of_length-le (part_of file) {i = 12 * i} (omega (arith, w.1))) refl
