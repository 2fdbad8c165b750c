-- What the contracts of placing say of the lent free-from minutes and of the lent table.
use Rattle.std.specs.Prelude.{◌≡◌, Option, None, Some, List, ℕ, suc, ◌+◌, ◌*◌, ◌≤◌, ◌<◌, ◌^◌, ◌++◌, length, drop, get_or}
use Rattle.rules.specs.Basics.{most_boards}
use Rattle.rules.specs.Plans.{Job, Row, numbers_of}
use Rattle.rules.specs.Planning.{Put, cannot, put, rooms, greatest_up_to, least_above, two_rows}

-- the row that a job of this number gets on a board
abbrev pub row_from : List ℕ → ℕ → ℕ → ℕ → Row
row_from free number board minutes = record {
  board = suc board;
  job = number;
  from = get_or free board 0;
  to = get_or free board 0 + minutes;
}

-- the table with these rows at its front
abbrev pub with_rows : List Row → List ℕ → List ℕ
with_rows rows table = numbers_of rows ++ drop (4 * length rows) table

-- how many rows a job got; none where it cannot be placed
unfoldable pub count_of : Put → Option ℕ
count_of cannot = None
count_of (put later rows) = Some (length rows)

unfoldable pub free_after : List ℕ → Put → List ℕ
free_after free cannot = free
free_after free (put later rows) = later

unfoldable pub table_after : List ℕ → Put → List ℕ
table_after table cannot = table
table_after table (put later rows) = with_rows rows table

-- 4, with A and B as chosen
unfoldable pub split_over : List ℕ → Job → Put
split_over free j =
    let rs = rooms j.due free in
    two_rows free j (greatest_up_to j.work rs) (least_above j.work rs)

-- the answer and both later lists are those of the definition
pub record Wrote (p : Put) (free table : List ℕ) (answer : Option ℕ) (free' table' : List ℕ) : Type 0 where
  pub count : answer ≡ count_of p
  pub later : free' ≡ free_after free p
  pub rows : table' ≡ table_after table p

-- there are boards, and the table holds two rows
pub record Ready (free table : List ℕ) : Type 0 where
  pub some : 0 < length free
  pub few : length free ≤ most_boards
  pub space : 8 ≤ length table

-- the board exists, its minutes are numbers of 32 bits, and the table holds a row
pub record RowReady (free table : List ℕ) (board minutes : ℕ) : Type 0 where
  pub known : board < length free
  pub few : length free ≤ most_boards
  pub fits : get_or free board 0 + minutes < 2 ^ 32
  pub space : 4 ≤ length table
