-- Laws of the writer's answer: the rows one by one, and one law for each way out.
use Rattle.std.specs.Prelude.{◌≡◌, refl, Result, Ok, Err, true, false, ◌||◌, not, Option, None, Some, option_map, cond, List, [], ◌∷◌, ◌++◌, ℕ, suc, ◌+◌, ◌*◌, ◌-◌, ◌/◌, ◌≤◌, ◌<◌, length, take, drop, ltb}
use Rattle.std.specs.List.{position_from, position_or_len}
use Rattle.std.proofs.lemmas.Iterator.Adapters.{position_from-zero}
use Rattle.std.proofs.Common.{inl, inr, sym, ap, ap₂, length-take-le, ◌∙◌, append_assoc, append-nil, arith, length-append, length-drop, drop_of_length-le, drop-drop, take_all, lt-ltb, le-ltb, add-one}
use borrow.Rule.Slice.PartMut.{put_mid}
use Rattle.laws.specs.Tests.{decided, pick_yes, pick_no, or_left, or_right, or_no}
use Rattle.refusals.specs.declared.Fault.{Fault}
use Rattle.rules.specs.declared.Refusal.{Refusal}
use Rattle.rules.specs.declared.Refusal.TheVariants.{BadLists, LongFile, OutOfRange, ShortBuffer}
use Rattle.rules.specs.declared.Written.{Written}
use Rattle.rules.specs.Refusals.{number_of}
use Rattle.rules.specs.Plans.{Row, first_row, rows_of}
use Rattle.rules.specs.PlanFiles.{bytes_of, row_bytes, rows_bytes, row_fits, trailer_bytes, file_length, first_wide, first_wide_from, WriteAnswer, write_answer, refused_write, written}
use Rattle.laws.specs.Rows.{length_rows_of}
use Rattle.laws.specs.Found.{found, found_none, found_some, found_above}
use Rattle.laws.specs.Stores.{stored, behind, stored-stored, stored_none}
use Rattle.tablerows.specs.Chunks.{rows_in, rows_in-end, rows_in-more, rows_in-taken, length-rows_in}
use Rattle.planfile.specs.Stores.{length_bytes_of}

-- what the writer answers for a length, or for a refusal
abbrev pub write_said : Result ℕ Fault → Written
write_said (Ok n) = record { refusal = 0; place = 0; length = n }
write_said (Err fault) = record { refusal = number_of fault.refusal; place = fault.place; length = 0 }

-- ---- rows one by one

pub length-row_bytes : (r : Row) → length (row_bytes r) ≡ 12
unfolding row_bytes
length-row_bytes r =
    omega (
      arith,
      length-append (bytes_of 2 r.board) (bytes_of 2 r.job ++ (bytes_of 4 r.from ++ bytes_of 4 r.to)),
      length-append (bytes_of 2 r.job) (bytes_of 4 r.from ++ bytes_of 4 r.to),
      length-append (bytes_of 4 r.from) (bytes_of 4 r.to),
      length_bytes_of 2 r.board,
      length_bytes_of 2 r.job,
      length_bytes_of 4 r.from,
      length_bytes_of 4 r.to,
    )

pub length-rows_bytes : (rows : List Row) → length (rows_bytes rows) ≡ 12 * length rows
unfolding rows_bytes
length-rows_bytes [] = refl
length-rows_bytes (r ∷ rows) = omega (arith, length-append (row_bytes r) (rows_bytes rows), length-row_bytes r, length-rows_bytes rows)

-- storing the first row, then the rows behind it, is storing them all
pub rows_more : (b b' row rest later : List ℕ) (i : ℕ) → length row ≡ 4 → rest ≡ row ++ later → 12 * i + 12 * (length rest / 4) ≤ length b
    → b' ≡ stored b (12 * i) (row_bytes (first_row row))
    → stored b' (12 * (i + 1)) (rows_bytes (rows_in later)) ≡ stored b (12 * i) (rows_bytes (rows_in rest))
unfolding rows_bytes
rows_more b b' row rest later i l e h p =
    let v = row_bytes (first_row row) in
    let w = rows_bytes (rows_in later) in
    let m : length v ≡ 12 = length-row_bytes (first_row row) in
    let n : length w ≡ 12 * (length later / 4) = length-rows_bytes (rows_in later) ∙ ap (λ (k : ℕ). 12 * k) (length-rows_in later) in
    let sum : length rest ≡ length row + length later = ap length e ∙ length-append row later in
    ap (λ (x : List ℕ). stored x (12 * (i + 1)) w) p
    ∙ stored-stored b (12 * i) (12 * (i + 1)) v w (omega arith) (omega arith)
    ∙ ap (λ (rows : List Row). stored b (12 * i) (rows_bytes rows)) (sym (ap rows_in e ∙ rows_in-more row later l))

pub rows_end : (b rest : List ℕ) (i : ℕ) → length rest < 4 → stored b (12 * i) (rows_bytes (rows_in rest)) ≡ b
unfolding rows_bytes
rows_end b rest i h = ap (λ (rows : List Row). stored b (12 * i) (rows_bytes rows)) (rows_in-end rest h) ∙ sym (stored_none b (12 * i))

-- ---- the first row that is too wide

wide_from : (i : ℕ) (rows : List Row) → found (first_wide_from (suc i) rows) ≡ option_map (λ (n : ℕ). n + 1) (position_from (λ (r : Row). not (row_fits r)) i rows)
unfolding first_wide_from
wide_from i [] = refl
wide_from i (r ∷ rows) =
    elim (decided (row_fits r)) [
      | inl e ↦ rw (e, add-one i) (wide_from (suc i) rows)
      | inr e ↦ rw e (ap Some (sym (add-one i)))
    ]

-- what `position` answers, and the definition, which counts from 1
pub wide_found : (rows : List Row) (r : Option ℕ)
    → r ≡ cond (ltb (position_or_len (λ (r : Row). not (row_fits r)) rows) (length rows)) (Some (position_or_len (λ (r : Row). not (row_fits r)) rows)) None
    → option_map (λ (n : ℕ). n + 1) r ≡ found (first_wide rows)
unfolding first_wide
wide_found rows r e = ap (option_map (λ (n : ℕ). n + 1)) (e ∙ position_from-zero (λ (r : Row). not (row_fits r)) rows) ∙ sym (wide_from 0 rows)

-- ---- rows, then the trailer

pub filled : (b b₁ b₂ b₃ rows : List ℕ) (count note : ℕ) → count ≡ length rows / 4 → 12 * count + 8 ≤ length b
    → b₁ ≡ stored b 0 (rows_bytes (rows_in rows))
    → b₂ ≡ stored b₁ (12 * count) (bytes_of 4 note)
    → b₃ ≡ stored b₂ (12 * count + 4) (bytes_of 4 count)
    → b₃ ≡ stored b 0 (rows_bytes (rows_in rows) ++ trailer_bytes note count)
unfolding trailer_bytes
filled b b₁ b₂ b₃ rows count note e h p q r =
    let v = rows_bytes (rows_in rows) in
    let l : length v ≡ 12 * count = length-rows_bytes (rows_in rows) ∙ ap (λ (n : ℕ). 12 * n) (length-rows_in rows ∙ sym e) in
    let l₁ : length (bytes_of 4 note) ≡ 4 = length_bytes_of 4 note in
    let l₂ : length (bytes_of 4 count) ≡ 4 = length_bytes_of 4 count in
    let s : b₂ ≡ stored b 0 (v ++ bytes_of 4 note) = behind b b₁ b₂ 0 (12 * count) v (bytes_of 4 note) p q (omega arith) (omega arith) in
    let m : length (v ++ bytes_of 4 note) ≡ 12 * count + 4 = length-append v (bytes_of 4 note) ∙ omega arith in
    behind b b₂ b₃ 0 (12 * count + 4) (v ++ bytes_of 4 note) (bytes_of 4 count) s r (omega arith) (omega arith)
    ∙ ap (stored b 0) (append_assoc v (bytes_of 4 note) (bytes_of 4 count))

pub length-trailer : (p count : ℕ) → length (trailer_bytes p count) ≡ 8
unfolding trailer_bytes
length-trailer p count =
    omega (arith, length-append (bytes_of 4 p) (bytes_of 4 count), length_bytes_of 4 p, length_bytes_of 4 count)

-- what the part behind the note holds, said of the whole buffer
pub written_whole : (b y t : List ℕ) (p count : ℕ) → count ≤ length t / 4 → p + 12 * count + 8 ≤ length b
    → y ≡ stored (take (length b - p) (drop p b)) 0 (rows_bytes (rows_in (take (4 * count) t)) ++ trailer_bytes p (length (take (4 * count) t) / 4))
    → put_mid p (length b - p) b y ≡ written (rows_of count t) b p
unfolding file_length written stored
written_whole b y t p count fits h e =
    let v = rows_bytes (rows_of count t) in
    let w = trailer_bytes p count in
    let lv : length v ≡ 12 * count = length-rows_bytes (rows_of count t) ∙ ap (λ (n : ℕ). 12 * n) (length_rows_of count t) in
    let sum : p + (0 + length (v ++ w)) ≡ p + 12 * count + 8 = omega (arith, length-append v w, length-trailer p count) in
    let none : drop (length b - p) (drop p b) ≡ [] = drop_of_length-le (drop p b) {i = length b - p} (omega (arith, length-drop p b)) in
    let quarter : length (take (4 * count) t) / 4 ≡ count = omega (arith, length-take-le (4 * count) t (omega arith)) in
    let said : rows_bytes (rows_in (take (4 * count) t)) ++ trailer_bytes p (length (take (4 * count) t) / 4) ≡ v ++ w = ap₂ (λ (rows : List Row) (n : ℕ). rows_bytes rows ++ trailer_bytes p n) (rows_in-taken count t fits) quarter in
    let rest : y ≡ v ++ w ++ drop (p + 12 * count + 8) b =
    e
    ∙ ap₂ (λ (l m : List ℕ). stored l 0 m) (take_all (length b - p) (drop p b) (omega (arith, length-drop p b))) said
    ∙ ap (λ (l : List ℕ). v ++ w ++ l) (drop-drop (0 + length (v ++ w)) p b ∙ ap (λ (n : ℕ). drop n b) sum) in
    ap (λ (l : List ℕ). take p b ++ (y ++ l)) none
    ∙ ap (λ (l : List ℕ). take p b ++ l) (append-nil y ∙ rest ∙ append_assoc v w (drop (p + 12 * count + 8) b))
    ∙ ap (λ (n : ℕ). take p b ++ (v ++ (trailer_bytes p n ++ drop (p + 12 * n + 8) b))) (sym (length_rows_of count t))

-- ---- the answer, by its ways out

module _ (t : List ℕ) (count : ℕ) (b : List ℕ) (p : ℕ) where
  -- a refusal's numbers, with the buffer as it was
  pub record Refuses (r : Refusal) (place : ℕ) : Type 0 where
    pub said : write_said (Err (record { refusal = r; place = place })) ≡ (write_answer t count b p).said
    pub later : b ≡ (write_answer t count b p).buffer

  refuses : (r : Refusal) (place : ℕ) → write_answer t count b p ≡ refused_write r place b → Refuses r place
  unfolding refused_write
  refuses r place e = record {
    said = sym (ap (λ (a : WriteAnswer). a.said) e);
    later = sym (ap (λ (a : WriteAnswer). a.buffer) e);
  }

  pub short_table : length t / 4 < count → Refuses BadLists 0
  unfolding write_answer
  short_table h = refuses BadLists 0 (pick_yes (ltb (length t) (4 * count)) _ _ (lt-ltb (length t) (4 * count) (omega arith)))

  module _ (fits : count ≤ length t / 4) where
    no_13 : ltb (length t) (4 * count) ≡ false
    no_13 = le-ltb (length t) (4 * count) (omega arith)

    long : ltb 2000 count || ltb 65536 (file_length p count) ≡ true → Refuses LongFile 0
    unfolding write_answer
    long e = refuses LongFile 0 (pick_no (ltb (length t) (4 * count)) _ _ no_13 ∙ pick_yes (ltb 2000 count || ltb 65536 (file_length p count)) _ _ e)

    pub long_count : 2000 < count → Refuses LongFile 0
    long_count h = long (or_left (ltb 2000 count) (ltb 65536 (file_length p count)) (lt-ltb 2000 count h))

    pub long_file : count ≤ 2000 → 65528 - 12 * count < p → Refuses LongFile 0
    unfolding file_length
    long_file k h = long (or_right (ltb 2000 count) (ltb 65536 (file_length p count)) (lt-ltb 65536 (file_length p count) (omega arith)))

    module _ (few : count ≤ 2000) (room : p ≤ 65528 - 12 * count) where
      no_11 : ltb 2000 count || ltb 65536 (file_length p count) ≡ false
      unfolding file_length
      no_11 = or_no (ltb 2000 count) (ltb 65536 (file_length p count)) (le-ltb 2000 count few) (le-ltb 65536 (file_length p count) (omega arith))

      abbrev pub Searched : Option ℕ → Type 0
      Searched o = o ≡ found (first_wide (rows_in (take (4 * count) t)))

      searched : (o : Option ℕ) → Searched o → o ≡ found (first_wide (rows_of count t))
      searched o e = e ∙ ap (λ (rows : List Row). found (first_wide rows)) (rows_in-taken count t fits)

      pub wide_row : (o : Option ℕ) (i : ℕ) → Searched o → o ≡ Some i → Refuses OutOfRange i
      unfolding write_answer
      wide_row o i e s =
          let w : o ≡ found (first_wide (rows_of count t)) = searched o e in
          let at : first_wide (rows_of count t) ≡ i = found_some (first_wide (rows_of count t)) w s in
          rw (← at) (refuses OutOfRange (first_wide (rows_of count t))
          (pick_no (ltb (length t) (4 * count)) _ _ no_13
          ∙ pick_no (ltb 2000 count || ltb 65536 (file_length p count)) _ _ no_11
          ∙ pick_yes (ltb 0 (first_wide (rows_of count t))) _ _ (lt-ltb 0 (first_wide (rows_of count t)) (found_above (first_wide (rows_of count t)) w s))))

      module _ (o : Option ℕ) (e : Searched o) (narrow : o ≡ None) where
        no_14 : ltb 0 (first_wide (rows_of count t)) ≡ false
        no_14 = le-ltb 0 (first_wide (rows_of count t)) (omega (arith, found_none (first_wide (rows_of count t)) (searched o e) narrow))

        pub short_buffer : length b < p + 12 * count + 8 → Refuses ShortBuffer 0
        unfolding write_answer file_length
        short_buffer h =
            refuses ShortBuffer 0
            (pick_no (ltb (length t) (4 * count)) _ _ no_13
            ∙ pick_no (ltb 2000 count || ltb 65536 (file_length p count)) _ _ no_11
            ∙ pick_no (ltb 0 (first_wide (rows_of count t))) _ _ no_14
            ∙ pick_yes (ltb (length b) (file_length p count)) _ _ (lt-ltb (length b) (file_length p count) h))

        pub accepted : p + 12 * count + 8 ≤ length b → write_answer t count b p ≡ record { said = record { refusal = 0; place = 0; length = p + 12 * count + 8 }; buffer = written (rows_of count t) b p }
        unfolding write_answer file_length
        accepted h =
            pick_no (ltb (length t) (4 * count)) _ _ no_13
            ∙ pick_no (ltb 2000 count || ltb 65536 (file_length p count)) _ _ no_11
            ∙ pick_no (ltb 0 (first_wide (rows_of count t))) _ _ no_14
            ∙ pick_no (ltb (length b) (file_length p count)) _ _ (le-ltb (length b) (file_length p count) h)
