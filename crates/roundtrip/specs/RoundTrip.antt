-- The round trip: what was written is read back, and what was read is written again. What rests on Narrow and on RoundTrip,
-- which the must-fail edits turn, stands in proofs/.
use Rattle.std.specs.Prelude.{◌≡◌, refl, Bool, true, false, ◌||◌, List, [], ◌∷◌, ◌++◌, ℕ, zero, suc, ◌+◌, ◌*◌, ◌-◌, ◌/◌, ◌%◌, ◌^◌, ◌≤◌, ◌<◌, length, get_or, take, drop, ltb}
use Rattle.std.proofs.Common.{sym, ap, ap₂, ◌∙◌, append_assoc, arith, pow-suc, div-lt_iff_lt-mul, lt_of_le_of_lt, length-append, length-drop, take-append-drop, length-take-le, take_at, drop_at, drop-drop, take-add, take_all, lit<, ltb-false}
use Rattle.std.proofs.Math.Nat.{add-sub_cancel_left}
use Rattle.std.proofs.Math.Seq.{drop-append_seam}
use Rattle.laws.specs.Rows.{length_rows_of}
use Rattle.laws.specs.Tests.{pick_no, or_no_left, or_no_right}
use Rattle.rules.specs.Basics.{All, pick}
use Rattle.rules.specs.declared.Refusal.{Refusal}
use Rattle.rules.specs.declared.Refusal.TheVariants.{ShortBuffer, LongFile, BadLists, OutOfRange}
use Rattle.refusals.specs.Numbers.{number_above}
use Rattle.rules.specs.Plans.{Row, rows_of}
use Rattle.rules.specs.PlanFiles.{bytes_of, value_of, row_bytes, rows_bytes, decode_row, decode_rows, trailer_bytes, trailer_offset, trailer_count, trailer_fits, part_answer, part_of, file_length, first_wide, WriteAnswer, refused_write, written, write_answer}
use Rattle.planfile.specs.Stores.{length_bytes_of}
use Rattle.planfile.specs.Writes.{length-rows_bytes, length-trailer}
use Rattle.planfile.specs.Parts.{found, found_rows, part_of_found, part_fits, fit_sum}

-- ---- a number, its bytes, and back

pub value_bytes : (k x : ℕ) → x < 256 ^ k → value_of (bytes_of k x) ≡ x
unfolding value_of bytes_of
value_bytes zero x h = omega arith
value_bytes (suc k) x h = omega (arith, value_bytes k (x / 256) ((div-lt_iff_lt-mul {k = 256} (lit< tt)).1 (rw (pow-suc 256 k) at h)))

pub bytes_value : (l : List ℕ) → All (λ b. b < 256) l → bytes_of (length l) (value_of l) ≡ l
unfolding value_of bytes_of
bytes_value [] a = refl
bytes_value (b ∷ l) a =
    let low : (b + 256 * value_of l) % 256 ≡ b = omega (arith, a.0) in
    let high : (b + 256 * value_of l) / 256 ≡ value_of l = omega (arith, a.0) in
    ap₂ (λ (x : ℕ) (y : List ℕ). x ∷ y) low (ap (bytes_of (length l)) high ∙ bytes_value l a.1)

-- ---- rows

-- a row whose numbers fit their fields
pub record Narrow (r : Row) : Type 0 where
  pub board : r.board < 65536
  pub job : r.job < 65536
  pub from : r.from < 4294967296
  pub to : r.to < 4294967296

-- ---- bytes of rows, decoded and encoded again

all_take : (P : ℕ → Type 0) (k : ℕ) (l : List ℕ) → All P l → All P (take k l)
all_take P zero l a = tt
all_take P (suc k) [] a = tt
all_take P (suc k) (x ∷ l) a = (a.0, all_take P k l a.1)

pub all_drop : (P : ℕ → Type 0) (k : ℕ) (l : List ℕ) → All P l → All P (drop k l)
all_drop P zero l a = a
all_drop P (suc k) [] a = tt
all_drop P (suc k) (x ∷ l) a = all_drop P k l a.1

abbrev Bytes : List ℕ → Type 0
Bytes l = All (λ b. b < 256) l

field : (k at : ℕ) (l : List ℕ) → Bytes l → at + k ≤ length l → bytes_of k (value_of (take k (drop at l))) ≡ take k (drop at l)
field k at l a h =
    let e : length (take k (drop at l)) ≡ k = length-take-le k (drop at l) (omega (arith, length-drop at l)) in
    ap (λ (n : ℕ). bytes_of n (value_of (take k (drop at l)))) (sym e)
    ∙ bytes_value (take k (drop at l)) (all_take (λ b. b < 256) k (drop at l) (all_drop (λ b. b < 256) at l a))

-- twelve bytes, cut into the four fields
cut : (l : List ℕ) → take 2 l ++ (take 2 (drop 2 l) ++ (take 4 (drop 4 l) ++ take 4 (drop 8 l))) ≡ take 12 l
cut l =
    ap (λ (x : List ℕ). take 2 l ++ (take 2 (drop 2 l) ++ (take 4 (drop 4 l) ++ take 4 x))) (sym (drop-drop 4 4 l))
    ∙ ap (λ (x : List ℕ). take 2 l ++ (take 2 (drop 2 l) ++ x)) (sym (take-add 4 4 (drop 4 l)))
    ∙ ap (λ (x : List ℕ). take 2 l ++ (take 2 (drop 2 l) ++ take 8 x)) (sym (drop-drop 2 2 l))
    ∙ ap (λ (x : List ℕ). take 2 l ++ x) (sym (take-add 2 8 (drop 2 l)))
    ∙ sym (take-add 2 10 l)

pub encode_row : (l : List ℕ) → Bytes l → 12 ≤ length l → row_bytes (decode_row l) ≡ take 12 l
unfolding row_bytes decode_row
encode_row l a h =
    ap₂ (λ (x y : List ℕ). x ++ y) (field 2 0 l a (omega arith))
    (ap₂ (λ (x y : List ℕ). x ++ y) (field 2 2 l a (omega arith))
    (ap₂ (λ (x y : List ℕ). x ++ y) (field 4 4 l a (omega arith)) (field 4 8 l a (omega arith))))
    ∙ cut l

pub encode_rows : (count : ℕ) (l : List ℕ) → Bytes l → length l ≡ 12 * count → rows_bytes (decode_rows count l) ≡ l
unfolding rows_bytes decode_rows
encode_rows zero [] a e = refl
encode_rows zero (x ∷ l) a e = absurd (omega arith)
encode_rows (suc count) l a e =
    ap₂ (λ (x y : List ℕ). x ++ y) (encode_row l a (omega arith))
    (encode_rows count (drop 12 l) (all_drop (λ b. b < 256) 12 l a) (omega (arith, length-drop 12 l)))
    ∙ take-append-drop 12 l

pub length-decode_rows : (count : ℕ) (l : List ℕ) → length (decode_rows count l) ≡ count
unfolding decode_rows
length-decode_rows zero l = refl
length-decode_rows (suc count) l = ap suc (length-decode_rows count (drop 12 l))

-- a trailer's numbers, encoded again
trailer_again : (s : List ℕ) → Bytes s → 8 ≤ length s → trailer_bytes (trailer_offset s) (trailer_count s) ≡ drop (length s - 8) s
unfolding trailer_bytes trailer_offset trailer_count
trailer_again s a h =
    let four : length s - 8 + 4 ≡ length s - 4 = omega arith in
    ap₂ (λ (x y : List ℕ). x ++ y) (field 4 (length s - 8) s a (omega arith)) (field 4 (length s - 4) s a (omega arith))
    ∙ ap (λ (n : ℕ). take 4 (drop (length s - 8) s) ++ take 4 (drop n s)) (sym four)
    ∙ ap (λ (x : List ℕ). take 4 (drop (length s - 8) s) ++ take 4 x) (sym (drop-drop 4 (length s - 8) s))
    ∙ sym (take-add 4 4 (drop (length s - 8) s))
    ∙ take_all 8 (drop (length s - 8) s) (omega (arith, length-drop (length s - 8) s))

-- ---- written, then read

-- the file that the writer leaves at the front of the buffer
unfoldable pub file_of : List ℕ → List Row → List ℕ
file_of note rows = note ++ (rows_bytes rows ++ trailer_bytes (length note) (length rows))

pub file_front : (rows : List Row) (b : List ℕ) (p : ℕ) → file_length p (length rows) ≤ length b → take (file_length p (length rows)) (written rows b p) ≡ file_of (take p b) rows
unfolding file_of written file_length
file_front rows b p h =
    let r = rows_bytes rows in
    let t = trailer_bytes p (length rows) in
    let d = drop (p + 12 * length rows + 8) b in
    let n : length (take p b) ≡ p = length-take-le p b (omega arith) in
    let m : length (take p b ++ (r ++ t)) ≡ p + 12 * length rows + 8 =
    omega (arith, length-append (take p b) (r ++ t), length-append r t, n, length-rows_bytes rows, length-trailer p (length rows)) in
    ap (take (p + 12 * length rows + 8)) (ap (λ (l : List ℕ). take p b ++ l) (sym (append_assoc r t d)) ∙ sym (append_assoc (take p b) (r ++ t) d))
    ∙ take_at (take p b ++ (r ++ t)) d (p + 12 * length rows + 8) m
    ∙ ap (λ (k : ℕ). take p b ++ (r ++ trailer_bytes k (length rows))) (sym n)

module _ (note : List ℕ) (rows : List Row) (short : length note + 12 * length rows + 8 ≤ 65536) (few : length rows ≤ 2000) where
  file_length_lem : length (file_of note rows) ≡ length note + 12 * length rows + 8
  unfolding file_of
  file_length_lem = omega (arith, length-append note (rows_bytes rows ++ trailer_bytes (length note) (length rows)), length-append (rows_bytes rows) (trailer_bytes (length note) (length rows)), length-rows_bytes rows, length-trailer (length note) (length rows))

  reads_offset : trailer_offset (file_of note rows) ≡ length note
  unfolding trailer_offset file_of trailer_bytes
  reads_offset =
      let r = rows_bytes rows in
      let t = bytes_of 4 (length note) ++ bytes_of 4 (length rows) in
      let e : length (note ++ r) ≡ length (note ++ (r ++ t)) - 8 =
      omega (arith, file_length_lem, length-append note r, length-rows_bytes rows) in
      ap (λ (l : List ℕ). value_of (take 4 l))
      (ap (drop (length (note ++ (r ++ t)) - 8)) (sym (append_assoc note r t)) ∙ drop_at (note ++ r) t (length (note ++ (r ++ t)) - 8) e)
      ∙ ap value_of (take_at (bytes_of 4 (length note)) (bytes_of 4 (length rows)) 4 (length_bytes_of 4 (length note)))
      ∙ value_bytes 4 (length note) (lt_of_le_of_lt {m = 65536} (omega arith) (lit< tt))

  reads_count : trailer_count (file_of note rows) ≡ length rows
  unfolding trailer_count file_of trailer_bytes
  reads_count =
      let r = rows_bytes rows in
      let o = bytes_of 4 (length note) in
      let c = bytes_of 4 (length rows) in
      let w = note ++ (r ++ (o ++ c)) in
      let e : length (note ++ r ++ o) ≡ length w - 4 =
      omega (arith, file_length_lem, length-append (note ++ r) o, length-append note r, length-rows_bytes rows, length_bytes_of 4 (length note)) in
      ap (λ (l : List ℕ). value_of (take 4 l))
      (ap (drop (length w - 4)) (sym (append_assoc note r (o ++ c)) ∙ sym (append_assoc (note ++ r) o c))
      ∙ drop_at (note ++ r ++ o) c (length w - 4) e)
      ∙ ap value_of (take_all 4 c (omega (arith, length_bytes_of 4 (length rows))))
      ∙ value_bytes 4 (length rows) (lt_of_le_of_lt {m = 2000} few (lit< tt))

  -- the rows' part is found again, behind the note
  pub reads_part : part_answer (file_of note rows) ≡ found (length note) (length rows)
  reads_part =
      sym
      (found_rows (file_of note rows) (length note) (length rows) (sym reads_offset) (sym reads_count)
      (omega (arith, file_length_lem)) (omega (arith, file_length_lem)) few (sym file_length_lem))

  pub part_again : part_of (file_of note rows) ≡ rows_bytes rows
  unfolding file_of
  part_again =
      let r = rows_bytes rows in
      let t = trailer_bytes (length note) (length rows) in
      sym (part_of_found (file_of note rows) (found (length note) (length rows)) (sym reads_part))
      ∙ ap (λ (n : ℕ). take n (drop (length note) (note ++ (r ++ t)))) (add-sub_cancel_left (length note) (12 * length rows))
      ∙ ap (take (12 * length rows)) (drop-append_seam note (r ++ t))
      ∙ take_at r t (12 * length rows) (length-rows_bytes rows)

-- ---- read, then written

-- what any accepted file's rows decode to, written again behind its note, is the same file
pub written_again : (s : List ℕ) → Bytes s → length s ≤ 65536 → trailer_fits s ≡ true → file_of (take (trailer_offset s) s) (decode_rows (trailer_count s) (part_of s)) ≡ s
unfolding file_of
written_again s a h e =
    let p = trailer_offset s in
    let c = trailer_count s in
    let sum : p + 12 * c + 8 ≡ length s = fit_sum s e in
    let rest : length s - 8 ≡ p + 12 * c = omega arith in
    let part : part_of s ≡ take (12 * c) (drop p s) =
    sym (part_of_found s (found p c) (sym (part_fits s h e)))
    ∙ ap (λ (n : ℕ). take n (drop p s)) (add-sub_cancel_left p (12 * c)) in
    let l : length (part_of s) ≡ 12 * c =
    ap length part ∙ length-take-le (12 * c) (drop p s) (omega (arith, length-drop p s)) in
    let bytes : Bytes (part_of s) =
    rw part (all_take (λ b. b < 256) (12 * c) (drop p s) (all_drop (λ b. b < 256) p s a)) in
    ap₂ (λ (x : List ℕ) (n : ℕ). take p s ++ (x ++ trailer_bytes n (length (decode_rows c (part_of s)))))
    (encode_rows c (part_of s) bytes l ∙ part)
    (length-take-le p s (omega arith))
    ∙ ap (λ (n : ℕ). take p s ++ (take (12 * c) (drop p s) ++ trailer_bytes p n)) (length-decode_rows c (part_of s))
    ∙ ap (λ (x : List ℕ). take p s ++ (take (12 * c) (drop p s) ++ x)) (trailer_again s a (omega arith) ∙ ap (λ (n : ℕ). drop n s) rest)
    ∙ ap (λ (x : List ℕ). take p s ++ (take (12 * c) (drop p s) ++ x)) (sym (drop-drop (12 * c) p s))
    ∙ ap (λ (x : List ℕ). take p s ++ x) (take-append-drop (12 * c) (drop p s))
    ∙ take-append-drop p s

-- ---- the same of the writer's answer

-- what an answer that is not refused was asked
pub record Asked (t : List ℕ) (count : ℕ) (b : List ℕ) (p : ℕ) : Type 0 where
  pub rows : 4 * count ≤ length t
  pub few : count ≤ 2000
  pub short : file_length p count ≤ 65536
  pub narrow : first_wide (rows_of count t) ≡ 0
  pub room : file_length p count ≤ length b
  pub said : write_answer t count b p ≡ record { said = record { refusal = 0; place = 0; length = file_length p count }; buffer = written (rows_of count t) b p }

abbrev pub refusal : WriteAnswer → ℕ
refusal a = a.said.refusal

-- one test of the answer: where it holds the answer is refused, so it does not hold
passed : (test : Bool) (r : Refusal) (place : ℕ) (b : List ℕ) (more : WriteAnswer) → (pick test (refused_write r place b) more).said.refusal ≡ 0 → test ≡ false
unfolding refused_write
passed true r place b more e = absurd (number_above r e)
passed false r place b more e = refl

pub asked : (t : List ℕ) (count : ℕ) (b : List ℕ) (p : ℕ) → (write_answer t count b p).said.refusal ≡ 0 → Asked t count b p
unfolding write_answer
asked t count b p e =
    let n₁ = passed (ltb (length t) (4 * count)) BadLists 0 b _ e in
    let e₁ = pick_no (ltb (length t) (4 * count)) (refused_write BadLists 0 b) _ n₁ in
    let n₂ = passed (ltb 2000 count || ltb 65536 (file_length p count)) LongFile 0 b _ (sym (ap refusal e₁) ∙ e) in
    let e₂ = e₁ ∙ pick_no (ltb 2000 count || ltb 65536 (file_length p count)) (refused_write LongFile 0 b) _ n₂ in
    let n₃ = passed (ltb 0 (first_wide (rows_of count t))) OutOfRange (first_wide (rows_of count t)) b _ (sym (ap refusal e₂) ∙ e) in
    let e₃ = e₂ ∙ pick_no (ltb 0 (first_wide (rows_of count t))) (refused_write OutOfRange (first_wide (rows_of count t)) b) _ n₃ in
    let n₄ = passed (ltb (length b) (file_length p count)) ShortBuffer 0 b _ (sym (ap refusal e₃) ∙ e) in
    let e₄ = e₃ ∙ pick_no (ltb (length b) (file_length p count)) (refused_write ShortBuffer 0 b) _ n₄ in
    record {
      rows = ltb-false (length t) (4 * count) n₁;
      few = ltb-false 2000 count (or_no_left (ltb 2000 count) (ltb 65536 (file_length p count)) n₂);
      short = ltb-false 65536 (file_length p count) (or_no_right (ltb 2000 count) (ltb 65536 (file_length p count)) n₂);
      narrow = omega (arith, ltb-false 0 (first_wide (rows_of count t)) n₃);
      room = ltb-false (length b) (file_length p count) n₄;
      said = e₄;
    }

abbrev pub Words : List ℕ → Type 0
Words t = All (λ x. x < 4294967296) t

pub word_at : (t : List ℕ) (i : ℕ) → Words t → get_or t i 0 < 4294967296
word_at [] i a = lit< tt
word_at (x ∷ t) zero a = a.0
word_at (x ∷ t) (suc i) a = word_at t i a.1

-- "Read back, the file gives the same rows", and the same note
pub record RoundTrip (t : List ℕ) (count : ℕ) (b : List ℕ) (p : ℕ) (file : List ℕ) : Type 0 where
  pub part : part_answer file ≡ found p count
  pub rows : decode_rows count (part_of file) ≡ rows_of count t
  pub note : take p file ≡ take p b

pub keeps_note : (note : List ℕ) (rows : List Row) (p : ℕ) → length note ≡ p → take p (file_of note rows) ≡ note
unfolding file_of
keeps_note note rows p e = take_at note (rows_bytes rows ++ trailer_bytes (length note) (length rows)) p e

-- the file as `file_of` has it
pub front : (t : List ℕ) (count : ℕ) (b : List ℕ) (p : ℕ) → file_length p count ≤ length b → take (file_length p count) (written (rows_of count t) b p) ≡ file_of (take p b) (rows_of count t)
front t count b p h =
    let n : length (rows_of count t) ≡ count = length_rows_of count t in
    ap (λ (k : ℕ). take (file_length p k) (written (rows_of count t) b p)) (sym n)
    ∙ file_front (rows_of count t) b p (rw n h)
