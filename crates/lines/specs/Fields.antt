-- Puts one behind the other: digits, fields, rows and lines.
use Rattle.std.specs.Prelude.{◌≡◌, refl, List, [], ◌∷◌, ◌++◌, ℕ, zero, suc, ◌+◌, ◌*◌, ◌-◌, ◌/◌, ◌%◌, ◌^◌, ◌≤◌, ◌<◌, length, get_or, take, drop}
use Rattle.std.proofs.Common.{sym, ap, ◌∙◌, append_assoc, append-nil, arith, add-one, length-append, length-drop, length-take-le, drop_of_length-le, drop-cons, pow-suc, mul-div_cancel, lit<}
use Rattle.rules.specs.Basics.{text}
use Rattle.rules.specs.Plans.{Row, first_row, rows_of}
use Rattle.rules.specs.Listings.{decimal, fields, row_lines}
use Rattle.lines.specs.declared.Page.{Page}
use Rattle.lines.specs.Digits.{IsLead, digits_from, digits_all, power_pos}
use Rattle.lines.specs.Pages.{Room, Puts, room_left, nothing_put, at_most, puts_then}

-- ---- the digits of a number

-- the power of ten of the next of k digits, and 0 behind the last
pub tens : ℕ → ℕ
tens zero = 0
tens (suc k) = 10 ^ k

tens_down : (k : ℕ) → tens (suc k) / 10 ≡ tens k
unfolding tens
tens_down zero = refl
tens_down (suc k) = ap (λ (y : ℕ). y / 10) (pow-suc 10 k) ∙ mul-div_cancel (10 ^ k) {n = 10} (lit< tt)

-- some digits were put; `left` more follow, the next of this power
pub record DigitsPut (p q : Page) (n power : ℕ) : Type 0 where
  pub left : ℕ
  pub few : left ≤ 10
  pub next : power ≡ tens left
  pub front : List ℕ
  pub whole : front ++ digits_from n left ≡ decimal n
  pub put : Puts p q front (10 - left)

pub digits_none : (p : Page) (n power : ℕ) → IsLead n power → DigitsPut p p n power
unfolding tens
digits_none p n power l =
    record {
      left = l.left + 1;
      few = omega (arith, l.few);
      next = l.power ∙ ap tens (sym (add-one l.left));
      front = [];
      whole = digits_all n power l;
      put = at_most _ (omega arith) (nothing_put p);
    }

pub digits_next : {p q r : Page} {n power : ℕ} (x : ℕ) → Room p 10 → 0 < power → DigitsPut p q n power →
    x ≡ 48 + n / power % 10 → Puts q r (x ∷ []) 1 → DigitsPut p r n (power / 10)
unfolding tens digits_from
digits_next {p} {q} {r} {n} {power} x room some d e put = go d.left d.few d.next d.front d.whole d.put
  where
    go : (left : ℕ) → left ≤ 10 → power ≡ tens left → (front : List ℕ) → front ++ digits_from n left ≡ decimal n →
        Puts p q front (10 - left) → DigitsPut p r n (power / 10)
    go zero few next front whole a = absurd (omega arith)
    go (suc k) few next front whole a =
        let same : x ≡ 48 + n / 10 ^ k % 10 = e ∙ ap (λ (y : ℕ). 48 + n / y % 10) next in
        record {
          left = k;
          few = omega arith;
          next = ap (λ (y : ℕ). y / 10) next ∙ tens_down k;
          front = front ++ (x ∷ []);
          whole = append_assoc front (x ∷ []) (digits_from n k) ∙ ap (λ (y : ℕ). front ++ (y ∷ digits_from n k)) same ∙ whole;
          put = at_most _ (omega arith) (puts_then (omega arith) a put);
        }

-- room for the next digit
pub digits_room : {p q : Page} {n power : ℕ} → Room p 10 → 0 < power → DigitsPut p q n power →
    Room q 1
unfolding tens
digits_room {p} {q} {n} {power} room some d =
    room_left 1 (omega (arith, one d.left d.next, d.few)) d.put
  where
    one : (left : ℕ) → power ≡ tens left → 0 < left
    one zero e = absurd (omega arith)
    one (suc k) e = omega arith

-- no digit left: the number is put whole
pub digits_done : {p q : Page} {n power : ℕ} → power ≤ 0 → DigitsPut p q n power → Puts p q (decimal n) 10
unfolding tens digits_from
digits_done {p} {q} {n} {power} none d = go d.left d.next d.front d.whole d.put
  where
    go : (left : ℕ) → power ≡ tens left → (front : List ℕ) → front ++ digits_from n left ≡ decimal n → Puts p q front (10 - left) →
        Puts p q (decimal n) 10
    go zero next front whole a = let all : front ≡ decimal n = sym (append-nil front) ∙ whole in rw (← all) (at_most _ (omega arith) a)
    go (suc k) next front whole a = absurd (omega (arith, power_pos k))

-- ---- fields

-- some fields were put; those from i on follow
pub record FieldsPut (p q : Page) (ns : List ℕ) (i : ℕ) : Type 0 where
  pub front : List ℕ
  pub whole : front ++ fields (drop i ns) ≡ fields ns
  pub put : Puts p q front (11 * i)

pub fields_none : (p : Page) (ns : List ℕ) → FieldsPut p p ns 0
fields_none p ns = record { front = []; whole = refl; put = nothing_put p }

pub fields_more : {p q r : Page} (ns : List ℕ) (i : ℕ) → Room p (11 * length ns + 1) → i < length ns →
    FieldsPut p q ns i → Puts q r (32 ∷ decimal (get_or ns i 0)) 11 → FieldsPut p r ns (i + 1)
unfolding fields
fields_more ns i room h f put =
    let v : List ℕ = 32 ∷ decimal (get_or ns i 0) in
    record {
      front = f.front ++ v;
      whole =
          append_assoc f.front v (fields (drop (i + 1) ns))
          ∙ ap (λ (n : ℕ). f.front ++ (v ++ fields (drop n ns))) (add-one i)
          ∙ ap (λ (l : List ℕ). f.front ++ fields l) (sym (drop-cons ns i 0 h))
          ∙ f.whole;
      put = at_most _ (omega arith) (puts_then (omega arith) f.put put);
    }

pub fields_done : {p q r : Page} (ns : List ℕ) (i : ℕ) → Room p (11 * length ns + 1) → i ≡ length ns →
    FieldsPut p q ns i → Puts q r (10 ∷ []) 1 → Puts p r (fields ns) (11 * length ns + 1)
unfolding fields
fields_done ns i room e f put =
    let none : drop i ns ≡ [] = drop_of_length-le ns {i = i} (omega arith) in
    let all : f.front ++ (10 ∷ []) ≡ fields ns = ap (λ (l : List ℕ). f.front ++ fields l) (sym none) ∙ f.whole in
    rw (← all) (at_most _ (omega arith) (puts_then (omega arith) f.put put))

-- ---- rows

-- the line of a row
unfoldable pub row_line : Row → List ℕ
row_line r = decimal r.board ++ fields (r.job ∷ r.from ∷ r.to ∷ [])

-- the first line of a plan, and its rows
unfoldable pub planned : List ℕ → List Row → List ℕ
planned first rows = text "plan" ++ (fields first ++ row_lines rows)

-- some rows were put; those of the first `left` of the rest of the table follow
pub record RowsPut (p q : Page) (table : List ℕ) (count : ℕ) (rest : List ℕ) (left : ℕ) : Type 0 where
  pub within : 4 * left ≤ length rest
  pub few : left ≤ count
  pub front : List ℕ
  pub whole : front ++ row_lines (rows_of left rest) ≡ row_lines (rows_of count table)
  pub put : Puts p q front (44 * (count - left))

pub rows_none : (p : Page) (table : List ℕ) (count : ℕ) {rest : List ℕ} {left : ℕ} → 4 * count ≤ length table → rest ≡ table →
    left ≡ count → RowsPut p p table count rest left
rows_none p table count h e f =
    rw (e, f) (record { within = h; few = omega arith; front = []; whole = refl; put = at_most _ (omega arith) (nothing_put p) })

-- room for the next row
pub rows_room : {p q : Page} {table rest : List ℕ} {count left : ℕ} (n : ℕ) → Room p (44 * count) → n + 1 ≡ left →
    RowsPut p q table count rest left → Room q 44
rows_room n room e f = room_left 44 (omega (arith, f.few)) f.put

-- a row of four numbers that stands in front of a table
row_first : (row t : List ℕ) → length row ≡ 4 → (first_row (row ++ t) ≡ first_row row) × (drop 4 (row ++ t) ≡ t)
unfolding first_row
row_first [] t e = absurd (omega arith)
row_first (a ∷ []) t e = absurd (omega arith)
row_first (a ∷ b ∷ []) t e = absurd (omega arith)
row_first (a ∷ b ∷ c ∷ []) t e = absurd (omega arith)
row_first (a ∷ b ∷ c ∷ d ∷ []) t e = (refl, refl)
row_first (a ∷ b ∷ c ∷ d ∷ f ∷ row) t e = absurd (omega arith)

pub rows_more : {p q r : Page} {table all rest : List ℕ} {count left n : ℕ} (row : List ℕ) → Room p (44 * count) →
    length row ≡ 4 → all ≡ row ++ rest → n + 1 ≡ left → RowsPut p q table count all left → Puts q r (row_line (first_row row)) 44 →
    RowsPut p r table count rest n
unfolding row_lines row_line rows_of
rows_more {p} {q} {r} {table} {all} {rest} {count} {left} {n} row room four e next f put =
    let x : Row = first_row row in
    let cut = row_first row rest four in
    let this : rows_of left all ≡ x ∷ rows_of n rest =
    ap (λ (k : ℕ). rows_of k all) (sym next ∙ add-one n)
    ∙ ap (λ (t : List ℕ). first_row t ∷ rows_of n (drop 4 t)) e
    ∙ ap (λ (y : Row). y ∷ rows_of n (drop 4 (row ++ rest))) cut.0
    ∙ ap (λ (t : List ℕ). x ∷ rows_of n t) cut.1 in
    record {
      within = omega (arith, f.within, ap length e, length-append row rest);
      few = omega (arith, f.few);
      front = f.front ++ row_line x;
      whole =
          append_assoc f.front (row_line x) (row_lines (rows_of n rest))
          ∙ ap (λ (v : List ℕ). f.front ++ v)
          (append_assoc (decimal x.board) (fields (x.job ∷ x.from ∷ x.to ∷ [])) (row_lines (rows_of n rest)))
          ∙ ap (λ (rows : List Row). f.front ++ row_lines rows) (sym this)
          ∙ f.whole;
      put = at_most _ (omega (arith, f.few)) (puts_then (omega (arith, f.few)) f.put put);
    }

-- the row that was put is that of the turn
pub turn_put : {q r : Page} {given row : List ℕ} → given ≡ row → Puts q r (row_line (first_row given)) 44 → Puts q r (row_line (first_row row)) 44
turn_put e put = rw (← e) put

-- no whole row is left
pub rows_done : {p q : Page} {table rest : List ℕ} {count left : ℕ} → (0 < left → length rest < 4) → RowsPut p q table count rest left →
    Puts p q (row_lines (rows_of count table)) (44 * count)
unfolding row_lines rows_of
rows_done {p} {q} {table} {rest} {count} {left} short f =
    let none : left ≡ 0 = empty left f.within short in
    let all : f.front ≡ row_lines (rows_of count table) =
    sym (append-nil f.front) ∙ ap (λ (n : ℕ). f.front ++ row_lines (rows_of n rest)) (sym none) ∙ f.whole in
    rw (← all) (at_most _ (omega arith) f.put)
  where
    empty : (k : ℕ) → 4 * k ≤ length rest → (0 < k → length rest < 4) → k ≡ 0
    empty zero w s = refl
    empty (suc k) w s = absurd (omega (arith, s (omega arith)))

-- ---- whole lines

pub row_put : {p q r : Page} (row : List ℕ) → length row ≡ 4 → Room p 44 →
    Puts p q (decimal (get_or row 0 0)) 10 → Puts q r (fields (take (length row - 1) (drop 1 row))) (11 * length (take (length row - 1) (drop 1 row)) + 1) →
    Puts p r (row_line (first_row row)) 44
unfolding row_line first_row
row_put [] e h a b = absurd (omega arith)
row_put (x ∷ []) e h a b = absurd (omega arith)
row_put (x ∷ y ∷ []) e h a b = absurd (omega arith)
row_put (x ∷ y ∷ z ∷ []) e h a b = absurd (omega arith)
row_put (x ∷ y ∷ z ∷ u ∷ []) e h a b = puts_then h a b
row_put (x ∷ y ∷ z ∷ u ∷ v ∷ row) e h a b = absurd (omega arith)

pub tail_room : {p q : Page} {v : List ℕ} (row : List ℕ) → length row ≡ 4 → Room p 44 → Puts p q v 10 →
    Room q (11 * length (take (length row - 1) (drop 1 row)) + 1)
tail_room row e h a =
    room_left _ (omega (arith, length-take-le (length row - 1) (drop 1 row) (omega (arith, length-drop 1 row)))) a
