-- Laws of the plan-file reader's answer: one for each way out.
use Rattle.std.specs.Prelude.{◌≡◌, refl, Result, Ok, Err, Bool, true, false, ◌&&◌, List, ℕ, ◌+◌, ◌*◌, ◌-◌, ◌≤◌, ◌<◌, length, take, drop, leb, ltb, eqb}
use Rattle.std.specs.Result.{result_unwrap_or}
use Rattle.std.proofs.Common.{sym, ap, ap₂, ◌∙◌, inl, inr, arith, length-take, length-take-le, length-drop, lt-ltb, le-ltb, le-leb, eq-eqb, ne_eqb, leb-true, eqb-true}
use Rattle.std.proofs.Math.Decide.{dec_le}
use Rattle.std.proofs.Math.Nat.{add-sub_cancel_left, min-le_left}
use Rattle.std.proofs.lemmas.Bool.{lt-leb}
use Rattle.laws.specs.Tests.{pick_yes, pick_no, decided, and_yes, and_left, and_right, and_no_left, and_no_right}
use Rattle.std.specs.declared.ops.Range.{Range}
use Rattle.rules.specs.declared.Refusal.{Refusal}
use Rattle.rules.specs.declared.Refusal.TheVariants.{LongFile, BadTrailer}
use Rattle.rules.specs.declared.RowPart.{RowPart}
use Rattle.rules.specs.PlanFiles.{refused_part, part_answer, part_of, trailer_fits, trailer_offset, trailer_count}

abbrev pub found : ℕ → ℕ → RowPart
found offset count = record { refusal = 0; place = 0; offset = offset; length = 12 * count }

-- what the reader answers for the place of the rows, or for why there is none
abbrev pub part_said : Result (Range ℕ) Refusal → RowPart
part_said (Ok rows) = record { refusal = 0; place = 0; offset = rows.start; length = rows.end - rows.start }
part_said (Err refusal) = refused_part refusal

pub part_long : (s : List ℕ) → 65536 < length s → part_answer s ≡ refused_part LongFile
unfolding part_answer
part_long s h = pick_yes (ltb 65536 (length s)) _ _ (lt-ltb 65536 (length s) h)

pub part_unfit : (s : List ℕ) → length s ≤ 65536 → trailer_fits s ≡ false → part_answer s ≡ refused_part BadTrailer
unfolding part_answer
part_unfit s h e = pick_no (ltb 65536 (length s)) _ _ (le-ltb 65536 (length s) h) ∙ pick_no (trailer_fits s) _ _ e

pub part_fits : (s : List ℕ) → length s ≤ 65536 → trailer_fits s ≡ true → part_answer s ≡ found (trailer_offset s) (trailer_count s)
unfolding part_answer
part_fits s h e = pick_no (ltb 65536 (length s)) _ _ (le-ltb 65536 (length s) h) ∙ pick_yes (trailer_fits s) _ _ e

-- the trailer's test, as its parts decide it
abbrev sums : List ℕ → Bool
sums s = eqb (trailer_offset s + 12 * trailer_count s + 8) (length s)

pub unfit_short : (s : List ℕ) → length s < 8 → trailer_fits s ≡ false
unfolding trailer_fits
unfit_short s h = and_no_left (leb 8 (length s)) (leb (trailer_count s) 2000 && sums s) (lt-leb 8 (length s) h)

pub unfit_count : (s : List ℕ) (count : ℕ) → count ≡ trailer_count s → 2000 < count → trailer_fits s ≡ false
unfolding trailer_fits
unfit_count s count e h =
    and_no_right (leb 8 (length s)) (leb (trailer_count s) 2000 && sums s)
    (and_no_left (leb (trailer_count s) 2000) (sums s) (lt-leb (trailer_count s) 2000 (omega arith)))

pub unfit_sum : (s : List ℕ) (offset count : ℕ) → offset ≡ trailer_offset s → count ≡ trailer_count s → (offset + 12 * count + 8 ≡ length s → ⊥) → trailer_fits s ≡ false
unfolding trailer_fits
unfit_sum s offset count p q h =
    and_no_right (leb 8 (length s)) (leb (trailer_count s) 2000 && sums s)
    (and_no_right (leb (trailer_count s) 2000) (sums s) (ne_eqb _ (length s) (λ e. h (omega (arith, e, p, q)))))

pub fit : (s : List ℕ) (offset count : ℕ) → offset ≡ trailer_offset s → count ≡ trailer_count s → 8 ≤ length s → count ≤ 2000 → offset + 12 * count + 8 ≡ length s → trailer_fits s ≡ true
unfolding trailer_fits
fit s offset count p q h k e =
    and_yes (leb 8 (length s)) (leb (trailer_count s) 2000 && sums s) (le-leb 8 (length s) h)
    (and_yes (leb (trailer_count s) 2000) (sums s) (le-leb (trailer_count s) 2000 (omega arith)) (eq-eqb _ (length s) (omega arith)))

pub found_rows : (s : List ℕ) (offset count : ℕ) → offset ≡ trailer_offset s → count ≡ trailer_count s → length s ≤ 65536 → 8 ≤ length s → count ≤ 2000 → offset + 12 * count + 8 ≡ length s → found offset count ≡ part_answer s
found_rows s offset count p q l h k e = ap₂ found p q ∙ sym (part_fits s l (fit s offset count p q h k e))

-- and the same, by where the rows end
pub placed : (s : List ℕ) (offset count : ℕ) → offset ≡ trailer_offset s → count ≡ trailer_count s → length s ≤ 65536 → 8 ≤ length s → count ≤ 2000
    → offset + 12 * count + 8 ≡ length s → part_said (Ok (record { start = offset; end = length s - 8 })) ≡ part_answer s
placed s offset count p q l h k e =
    ap (λ (n : ℕ). record { refusal = 0; place = 0; offset = offset; length = n }) (omega arith) ∙ found_rows s offset count p q l h k e

-- the part lies within the file
empty : (r : Refusal) → ((refused_part r).offset ≡ 0) × ((refused_part r).length ≡ 0)
unfolding refused_part
empty r = (refl, refl)

pub fit_sum : (s : List ℕ) → trailer_fits s ≡ true → trailer_offset s + 12 * trailer_count s + 8 ≡ length s
unfolding trailer_fits
fit_sum s e =
    eqb-true _ (length s)
    (and_right (leb (trailer_count s) 2000) (sums s) (and_right (leb 8 (length s)) (leb (trailer_count s) 2000 && sums s) e))

pub part_within : (s : List ℕ) → (part_answer s).offset + (part_answer s).length ≤ length s
part_within s =
    elim (dec_le (length s) 65536) [
      | no h ↦ omega (arith, ap (λ (r : RowPart). r.offset) (part_long s (omega arith)), ap (λ (r : RowPart). r.length) (part_long s (omega arith)), empty LongFile)
      | yes h ↦ elim (decided (trailer_fits s)) [
        | inl e ↦ omega (arith, ap (λ (r : RowPart). r.offset) (part_fits s h e), ap (λ (r : RowPart). r.length) (part_fits s h e), fit_sum s e)
        | inr e ↦ omega (arith, ap (λ (r : RowPart). r.offset) (part_unfit s h e), ap (λ (r : RowPart). r.length) (part_unfit s h e), empty BadTrailer)
      ]
    ]

pub part_of_found : (s : List ℕ) (r : RowPart) → r ≡ part_answer s → take (r.offset + r.length - r.offset) (drop r.offset s) ≡ part_of s
unfolding part_of
part_of_found s r e = rw e (ap (λ (n : ℕ). take n (drop (part_answer s).offset s)) (add-sub_cancel_left (part_answer s).offset (part_answer s).length))

-- the part that is lent, by its ends
pub part_lent : (s : List ℕ) (p : Result (Range ℕ) Refusal) (r : Range ℕ) → r ≡ result_unwrap_or p (record { start = 0; end = 0 }) → part_said p ≡ part_answer s
    → take (r.end - r.start) (drop r.start s) ≡ part_of s
unfolding part_of refused_part
part_lent s (Ok rows) r e q = rw (e, ← q) refl
part_lent s (Err refusal) r e q = rw (e, ← q) refl

-- 2,000 rows at the most
pub fit_count : (s : List ℕ) → trailer_fits s ≡ true → trailer_count s ≤ 2000
unfolding trailer_fits
fit_count s e =
    leb-true (trailer_count s) 2000
    (and_left (leb (trailer_count s) 2000) (sums s) (and_right (leb 8 (length s)) (leb (trailer_count s) 2000 && sums s) e))

pub most_length : (s : List ℕ) → (part_answer s).length ≤ 24000
most_length s =
    elim (dec_le (length s) 65536) [
      | no h ↦ omega (arith, ap (λ (r : RowPart). r.length) (part_long s (omega arith)), empty LongFile)
      | yes h ↦ elim (decided (trailer_fits s)) [
        | inl e ↦ omega (arith, ap (λ (r : RowPart). r.length) (part_fits s h e), fit_count s e)
        | inr e ↦ omega (arith, ap (λ (r : RowPart). r.length) (part_unfit s h e), empty BadTrailer)
      ]
    ]

pub part_length : (s : List ℕ) → length (part_of s) ≤ 24000
unfolding part_of
part_length s = omega (arith, length-take (part_answer s).length (drop (part_answer s).offset s), most_length s, min-le_left (part_answer s).length (length (drop (part_answer s).offset s)))

-- and it is whole rows
whole_answer : (s : List ℕ) → (n : ℕ) × ((part_answer s).length ≡ 12 * n)
whole_answer s =
    elim (dec_le (length s) 65536) [
      | no h ↦ (0, ap (λ (r : RowPart). r.length) (part_long s (omega arith)) ∙ (empty LongFile).1)
      | yes h ↦ elim (decided (trailer_fits s)) [
        | inl e ↦ (trailer_count s, ap (λ (r : RowPart). r.length) (part_fits s h e))
        | inr e ↦ (0, ap (λ (r : RowPart). r.length) (part_unfit s h e) ∙ (empty BadTrailer).1)
      ]
    ]

pub part_whole : (s : List ℕ) → (n : ℕ) × (length (part_of s) ≡ 12 * n)
unfolding part_of
part_whole s =
    let w = whole_answer s in
    (w.0, length-take-le (part_answer s).length (drop (part_answer s).offset s) (omega (arith, length-drop (part_answer s).offset s, part_within s)) ∙ w.1)
