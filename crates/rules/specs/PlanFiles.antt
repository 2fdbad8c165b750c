-- The plan file: "a free note of any length, then rows of 12 bytes ..., then 8 bytes at the end".
use Rattle.std.specs.Prelude.{Bool, ◌&&◌, ◌||◌, List, [], ◌∷◌, ◌++◌, ℕ, zero, suc, ◌+◌, ◌*◌, ◌-◌, ◌/◌, ◌%◌, length, take, drop, leb, ltb, eqb}
use Rattle.rules.specs.declared.Refusal.{Refusal}
use Rattle.rules.specs.declared.Refusal.TheVariants.{ShortBuffer, LongFile, BadLists, OutOfRange, BadTrailer}
use Rattle.rules.specs.declared.RowPart.{RowPart}
use Rattle.rules.specs.declared.Written.{Written}
use Rattle.rules.specs.Basics.{pick, most_bytes, most_rows}
use Rattle.rules.specs.Refusals.{number_of}
use Rattle.rules.specs.Plans.{Row, rows_of}

-- "Little-endian": a number as so many bytes, the lowest first, and back
unfoldable pub bytes_of : ℕ → ℕ → List ℕ
bytes_of zero x = []
bytes_of (suc k) x = x % 256 ∷ bytes_of k (x / 256)

unfoldable pub value_of : List ℕ → ℕ
value_of [] = 0
value_of (b ∷ bs) = b + 256 * value_of bs

-- "board and job 16 bits each, from and to 32 bits each"
unfoldable pub row_bytes : Row → List ℕ
row_bytes r = bytes_of 2 r.board ++ (bytes_of 2 r.job ++ (bytes_of 4 r.from ++ bytes_of 4 r.to))

unfoldable pub rows_bytes : List Row → List ℕ
rows_bytes [] = []
rows_bytes (r ∷ rows) = row_bytes r ++ rows_bytes rows

unfoldable pub decode_row : List ℕ → Row
decode_row bytes = record {
  board = value_of (take 2 bytes);
  job = value_of (take 2 (drop 2 bytes));
  from = value_of (take 4 (drop 4 bytes));
  to = value_of (take 4 (drop 8 bytes));
}

unfoldable pub decode_rows : ℕ → List ℕ → List Row
decode_rows zero bytes = []
decode_rows (suc count) bytes = decode_row bytes ∷ decode_rows count (drop 12 bytes)

-- the trailer: "the offset of the first row and the row count, 32 bits each"
unfoldable pub trailer_bytes : ℕ → ℕ → List ℕ
trailer_bytes offset count = bytes_of 4 offset ++ bytes_of 4 count

unfoldable pub trailer_offset : List ℕ → ℕ
trailer_offset file = value_of (take 4 (drop (length file - 8) file))

unfoldable pub trailer_count : List ℕ → ℕ
trailer_count file = value_of (take 4 (drop (length file - 4) file))

-- "offset + 12 × count + 8 equals the file length. Count is at most 2,000. Otherwise 15, also for files under 8 bytes"
unfoldable pub trailer_fits : List ℕ → Bool
trailer_fits file =
    leb 8 (length file) && (leb (trailer_count file) most_rows && eqb (trailer_offset file + 12 * trailer_count file + 8) (length file))

-- The reader's answer: "exactly the bytes of the rows, or the empty part at the file's front with a refusal"; "11 comes before 15".
unfoldable pub refused_part : Refusal → RowPart
refused_part refusal = record { refusal = number_of refusal; place = 0; offset = 0; length = 0 }

unfoldable pub part_answer : List ℕ → RowPart
part_answer file =
    pick (ltb most_bytes (length file)) (refused_part LongFile)
    (pick (trailer_fits file)
    (record { refusal = 0; place = 0; offset = trailer_offset file; length = 12 * trailer_count file })
    (refused_part BadTrailer))

unfoldable pub part_of : List ℕ → List ℕ
part_of file = take (part_answer file).length (drop (part_answer file).offset file)

-- 14: the first row with "board or job above 65,535", or 0 if there is none
unfoldable pub row_fits : Row → Bool
row_fits r = leb r.board 65535 && leb r.job 65535

unfoldable pub first_wide_from : ℕ → List Row → ℕ
first_wide_from number [] = 0
first_wide_from number (r ∷ rows) =
    let later = first_wide_from (suc number) rows in
    pick (row_fits r) later number

unfoldable pub first_wide : List Row → ℕ
first_wide rows = first_wide_from 1 rows

-- the file length for a note of p bytes
unfoldable pub file_length : ℕ → ℕ → ℕ
file_length p count = p + 12 * count + 8

-- The writer's whole answer: its numbers and the later contents of the buffer.
pub record WriteAnswer : Type 0 where
  pub said : Written
  pub buffer : List ℕ

unfoldable pub refused_write : Refusal → ℕ → List ℕ → WriteAnswer
refused_write refusal place buffer = record { said = record { refusal = number_of refusal; place = place; length = 0 }; buffer = buffer }

-- "the first p bytes, the note, are kept"; "bytes beyond that are untouched"
unfoldable pub written : List Row → List ℕ → ℕ → List ℕ
written rows buffer p =
    take p buffer ++ (rows_bytes rows ++ (trailer_bytes p (length rows) ++ drop (file_length p (length rows)) buffer))

-- "Order: 13 (table under 4 numbers per row), 11 (over 2,000 rows, or over 65,536 bytes in all), 14, 10"
unfoldable pub write_answer : List ℕ → ℕ → List ℕ → ℕ → WriteAnswer
write_answer table count buffer p =
    pick (ltb (length table) (4 * count)) (refused_write BadLists 0 buffer)
    (pick (ltb most_rows count || ltb most_bytes (file_length p count)) (refused_write LongFile 0 buffer)
    (pick (ltb 0 (first_wide (rows_of count table))) (refused_write OutOfRange (first_wide (rows_of count table)) buffer)
    (pick (ltb (length buffer) (file_length p count)) (refused_write ShortBuffer 0 buffer)
    (record { said = record { refusal = 0; place = 0; length = file_length p count }; buffer = written (rows_of count table) buffer p }))))
