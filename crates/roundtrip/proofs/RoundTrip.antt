-- What rests on Narrow and on RoundTrip, which the must-fail edits turn: rows that fit their fields are decoded as they were,
-- and a written file gives back its rows and its note.
use Rattle.std.specs.Prelude.{◌≡◌, refl, Bool, true, false, List, [], ◌∷◌, ◌++◌, ℕ, zero, suc, ◌+◌, ◌*◌, ◌≤◌, ◌<◌, length, get_or, take, drop, leb}
use Rattle.std.proofs.Common.{sym, ap, ap₂, ◌∙◌, append_assoc, append-nil, arith, lt_of_le_of_lt, length-take-le, drop_at, lit<, leb-true}
use Rattle.laws.specs.Rows.{length_rows_of}
use Rattle.laws.specs.Tests.{pick_yes, and_left, and_right}
use Rattle.rules.specs.Basics.{All, pick}
use Rattle.rules.specs.Plans.{Row, first_row, rows_of}
use Rattle.rules.specs.PlanFiles.{bytes_of, row_bytes, rows_bytes, decode_row, decode_rows, part_of, file_length, first_wide, first_wide_from, row_fits, WriteAnswer, write_answer}
use Rattle.planfile.specs.Writes.{length-row_bytes}
use Rattle.planfile.specs.Parts.{found}
use Rattle.roundtrip.specs.RoundTrip.{Narrow, RoundTrip, Words, refusal, value_bytes, all_drop, file_of, reads_part, part_again, asked, word_at, keeps_note, front}

-- ---- rows that fit their fields, decoded

pub decode_row_lem : (r : Row) (rest : List ℕ) → Narrow r → decode_row (row_bytes r ++ rest) ≡ r
unfolding decode_row row_bytes bytes_of
decode_row_lem r rest n = λ i. record {
  board = value_bytes 2 r.board n.board i;
  job = value_bytes 2 r.job n.job i;
  from = value_bytes 4 r.from n.from i;
  to = value_bytes 4 r.to n.to i;
}

pub decode_rows_lem : (rows : List Row) (rest : List ℕ) → All Narrow rows → decode_rows (length rows) (rows_bytes rows ++ rest) ≡ rows
unfolding decode_rows rows_bytes
decode_rows_lem [] rest a = refl
decode_rows_lem (r ∷ rows) rest a =
    let e : row_bytes r ++ rows_bytes rows ++ rest ≡ row_bytes r ++ (rows_bytes rows ++ rest) = append_assoc (row_bytes r) (rows_bytes rows) rest in
    ap₂ (λ (x : Row) (l : List ℕ). x ∷ decode_rows (length rows) l)
    (ap decode_row e ∙ decode_row_lem r (rows_bytes rows ++ rest) a.0)
    (ap (drop 12) e ∙ drop_at (row_bytes r) (rows_bytes rows ++ rest) 12 (length-row_bytes r))
    ∙ ap (λ (l : List Row). r ∷ l) (decode_rows_lem rows rest a.1)

module _ (note : List ℕ) (rows : List Row) (short : length note + 12 * length rows + 8 ≤ 65536) (few : length rows ≤ 2000) where
  -- the rows' part that is found decodes to the same rows
  pub reads_rows : All Narrow rows → decode_rows (length rows) (part_of (file_of note rows)) ≡ rows
  reads_rows a =
      ap (decode_rows (length rows)) (part_again note rows short few ∙ sym (append-nil (rows_bytes rows))) ∙ decode_rows_lem rows [] a

-- ---- the same of the writer's answer: rows that are not refused fit their fields

row_narrow : (t : List ℕ) → Words t → row_fits (first_row t) ≡ true → Narrow (first_row t)
unfolding row_fits first_row
row_narrow t a e = record {
  board = lt_of_le_of_lt {m = 65535} (leb-true (get_or t 0 0) 65535 (and_left (leb (get_or t 0 0) 65535) (leb (get_or t 1 0) 65535) e)) (lit< tt);
  job = lt_of_le_of_lt {m = 65535} (leb-true (get_or t 1 0) 65535 (and_right (leb (get_or t 0 0) 65535) (leb (get_or t 1 0) 65535) e)) (lit< tt);
  from = word_at t 2 a;
  to = word_at t 3 a;
}

fits_now : (test : Bool) (later k : ℕ) → pick test later (suc k) ≡ 0 → test ≡ true
fits_now true later k e = refl
fits_now false later k e = absurd (omega arith)

rows_narrow : (count : ℕ) (t : List ℕ) (k : ℕ) → Words t → first_wide_from (suc k) (rows_of count t) ≡ 0 → All Narrow (rows_of count t)
unfolding rows_of first_wide_from
rows_narrow zero t k a e = tt
rows_narrow (suc count) t k a e =
    let later = first_wide_from (suc (suc k)) (rows_of count (drop 4 t)) in
    let fits = fits_now (row_fits (first_row t)) later k e in
    (row_narrow t a fits, rows_narrow count (drop 4 t) (suc k) (all_drop (λ x. x < 4294967296) 4 t a) (sym (pick_yes (row_fits (first_row t)) later (suc k) fits) ∙ e))

wide_none : (t : List ℕ) (count : ℕ) → first_wide (rows_of count t) ≡ 0 → first_wide_from 1 (rows_of count t) ≡ 0
unfolding first_wide
wide_none t count e = e

read_back : (t : List ℕ) (count : ℕ) (b : List ℕ) (p : ℕ) → count ≤ 2000 → file_length p count ≤ 65536 → file_length p count ≤ length b → All Narrow (rows_of count t) → RoundTrip t count b p (file_of (take p b) (rows_of count t))
unfolding file_length
read_back t count b p few short room narrow =
    let rows = rows_of count t in
    let n : length rows ≡ count = length_rows_of count t in
    let l : length (take p b) ≡ p = length-take-le p b (omega arith) in
    let s : length (take p b) + 12 * length rows + 8 ≤ 65536 = omega arith in
    let f : length rows ≤ 2000 = omega arith in
    record {
      part = reads_part (take p b) rows s f ∙ ap₂ found l n;
      rows = ap (λ (k : ℕ). decode_rows k (part_of (file_of (take p b) rows))) (sym n) ∙ reads_rows (take p b) rows s f narrow;
      note = keeps_note (take p b) rows p l;
    }

-- a file that was written without a refusal gives back its rows and its note
pub round_trip : (t : List ℕ) (count : ℕ) (b : List ℕ) (p : ℕ) (a : WriteAnswer) → a ≡ write_answer t count b p → Words t → a.said.refusal ≡ 0 → RoundTrip t count b p (take a.said.length a.buffer)
round_trip t count b p a e w ok =
    let k = asked t count b p (ap refusal (sym e) ∙ ok) in
    let n : length (rows_of count t) ≡ count = length_rows_of count t in
    let whole : take a.said.length a.buffer ≡ file_of (take p b) (rows_of count t) =
    ap (λ (x : WriteAnswer). take x.said.length x.buffer) (e ∙ k.said) ∙ front t count b p k.room in
    rw whole (read_back t count b p k.few k.short k.room (rows_narrow count t 0 w (wide_none t count k.narrow)))
