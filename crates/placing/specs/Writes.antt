-- What the code has written, against the definitions: one law for each way out.
use Rattle.std.specs.Prelude.{◌≡◌, refl, Option, None, Some, List, [], ◌∷◌, ◌++◌, ℕ, suc, ◌+◌, ◌-◌, ◌≤◌, ◌<◌, length, take, drop, get_or}
use Rattle.std.proofs.Common.{sym, ◌∙◌, Fits, ne_eqb, ap, arith, length-set, length-drop}
use Rattle.std.proofs.lemmas.List.{take_rest}
use borrow.Rule.Slice.PartMut.{put_mid}
use Rattle.std.specs.Int.{w32}
use Rattle.rules.specs.declared.Spot.{Spot}
use Rattle.rules.specs.Plans.{Job, numbers_of}
use Rattle.rules.specs.Planning.{Put, cannot, put, rooms, greatest_up_to, least_above, row_on, fill, one_row, two_rows, place_last, place_other}
use Rattle.laws.specs.Tests.{pick_no}
use Rattle.placing.specs.Rows.{row_from, split_over, with_rows, count_of, free_after, table_after, Wrote, Ready, RowReady}
use Rattle.placing.specs.Lent.{rows_behind}
use Rattle.placing.specs.Choice.{Spotted, greatest_spotted, least_spotted, greatest_bound, spot_fits, fill_apart}
use Rattle.placing.specs.Steps.{last_cannot, last_one, other_cannot, other_one, other_two, split_one, split_above}

-- four numbers over the table's first four are one row
pub row_stored : (table free : List ℕ) (number board minutes : ℕ) →
    ((board + 1) ∷ number ∷ get_or free board 0 ∷ (get_or free board 0 + minutes) ∷ []) ++ drop 4 table
    ≡ with_rows (row_from free number board minutes ∷ []) table
unfolding numbers_of
row_stored table free number board minutes =
    let e : board + 1 ≡ suc board = omega arith in rw e refl

wrote_cannot : (p : Put) (free table : List ℕ) → p ≡ cannot → Wrote p free table None free table
unfolding count_of free_after table_after
wrote_cannot p free table e = rw e (record { count = refl; later = refl; rows = refl })

wrote_one : (p : Put) (free table : List ℕ) (j : Job) (board : ℕ) (free' table' : List ℕ) →
    p ≡ one_row free j board → free' ≡ fill free board j.work →
    table' ≡ with_rows (row_from free j.number board j.work ∷ []) table → Wrote p free table (Some 1) free' table'
unfolding count_of free_after table_after one_row row_on
wrote_one p free table j board free' table' e f r = rw e (record { count = refl; later = f; rows = r })

-- A spot that was found takes a row of at most its room.
spot_ready : (free table : List ℕ) (due : ℕ) (s : Spot) (minutes : ℕ) → Ready free table → Spotted due free s →
    minutes ≤ s.room → Fits w32 due → Fits w32 (get_or free s.board 0) → RowReady free table s.board minutes
spot_ready free table due s minutes ready known l d f =
    record {
      known = known.known;
      few = ready.few;
      fits = spot_fits due free s minutes known l d.fits f.fits;
      space = omega (arith, ready.space);
    }

pub greatest_ready : (free table : List ℕ) (s : Spot) (due limit minutes : ℕ) → Ready free table →
    s ≡ greatest_up_to limit (rooms due free) → minutes ≤ s.room → Fits w32 due → Fits w32 (get_or free s.board 0) →
    RowReady free table s.board minutes
greatest_ready free table s due limit minutes ready e l d f =
    spot_ready free table due s minutes ready (rw e (greatest_spotted limit due free ready.some)) l d f

pub least_ready : (free table : List ℕ) (s : Spot) (due limit minutes : ℕ) → Ready free table →
    s ≡ least_above limit (rooms due free) → minutes ≤ s.room → Fits w32 due → Fits w32 (get_or free s.board 0) →
    RowReady free table s.board minutes
least_ready free table s due limit minutes ready e l d f =
    spot_ready free table due s minutes ready (rw e (least_spotted limit due free ready.some)) l d f

module _ (free table : List ℕ) (j : Job) (s : Spot) where
  pub last_none : s ≡ greatest_up_to j.due (rooms j.due free) → s.room < j.work →
      Wrote (place_last free j) free table None free table
  last_none e h = wrote_cannot _ free table (last_cannot free j (rw e at h))

  pub other_none : 0 < length free → s ≡ greatest_up_to j.due (rooms j.due free) → s.room < j.work →
      Wrote (place_other free j) free table None free table
  other_none some e h = wrote_cannot _ free table (other_cannot free j some (rw e at h))

  module _ (free' table' : List ℕ) (later : free' ≡ fill free s.board j.work)
      (row : table' ≡ with_rows (row_from free j.number s.board j.work ∷ []) table) where
    pub last_wrote : s ≡ greatest_up_to j.due (rooms j.due free) → j.work ≤ s.room →
        Wrote (place_last free j) free table (Some 1) free' table'
    last_wrote e h = wrote_one _ free table j s.board free' table'
        (last_one free j (rw e at h) ∙ ap (λ (x : Spot). one_row free j x.board) (sym e)) later row

    pub other_wrote : (most : Spot) → most ≡ greatest_up_to j.due (rooms j.due free) → j.work ≤ most.room → 0 < length free →
        s ≡ least_above 0 (rooms j.due free) → j.work ≤ s.room → Wrote (place_other free j) free table (Some 1) free' table'
    other_wrote most m enough some e h = wrote_one _ free table j s.board free' table'
        (other_one free j some (rw m at enough) (rw e at h) ∙ ap (λ (x : Spot). one_row free j x.board) (sym e)) later row

    pub whole_wrote : s ≡ greatest_up_to j.work (rooms j.due free) → s.room ≡ j.work →
        Wrote (split_over free j) free table (Some 1) free' table'
    whole_wrote e h = wrote_one _ free table j s.board free' table'
        (split_one free j (ap (λ (x : Spot). x.room) (sym e) ∙ h) ∙ ap (λ (x : Spot). one_row free j x.board) (sym e))
        later row

-- A and B of step 4, where A does not take the whole job
pub record Split (free : List ℕ) (j : Job) (a b : Spot) : Type 0 where
  pub first : a ≡ greatest_up_to j.work (rooms j.due free)
  pub second : b ≡ least_above j.work (rooms j.due free)
  pub first_known : Spotted j.due free a
  pub second_known : Spotted j.due free b
  pub low : a.room < j.work
  pub high : j.work < b.room

pub split : (free : List ℕ) (j : Job) (a b : Spot) → 0 < length free → j.work ≤ (greatest_up_to j.due (rooms j.due free)).room →
    a ≡ greatest_up_to j.work (rooms j.due free) → b ≡ least_above j.work (rooms j.due free) → (a.room ≡ j.work → ⊥) →
    Split free j a b
split free j a b some enough ea eb ne =
    record {
      first = ea;
      second = eb;
      first_known = rw ea (greatest_spotted j.work j.due free some);
      second_known = rw eb (least_spotted j.work j.due free some);
      low = omega (arith, greatest_bound j.work (rooms j.due free), ap (λ (x : Spot). x.room) ea, ne);
      high = rw eb (split_above free j.work j.due enough (λ e. ne (ap (λ (x : Spot). x.room) ea ∙ e)));
    }

module _ (free table : List ℕ) (j : Job) (a b : Spot) (s : Split free j a b) (free' table' : List ℕ)
    (later : free' ≡ fill free a.board a.room) (row : table' ≡ with_rows (row_from free j.number a.board a.room ∷ []) table)
  where
    apart : get_or free' b.board 0 ≡ get_or free b.board 0
    apart = ap (λ (l : List ℕ). get_or l b.board 0) later ∙ fill_apart j.due free a b s.first_known s.second_known
        (omega (arith, s.low, s.high))

    -- B's row goes behind A's, into the rest of the table
    pub second_ready : Ready free table → length table' ≡ length table → Fits w32 j.due → Fits w32 (get_or free b.board 0) →
        RowReady free' (take (length table' - 4) (drop 4 table')) b.board (j.work - a.room)
    unfolding fill
    second_ready ready wide d f =
        let long : length free' ≡ length free = ap length later ∙ length-set free a.board _ in
        record {
          known = omega (arith, s.second_known.known);
          few = omega (arith, ready.few);
          fits = rw apart (spot_fits j.due free b (j.work - a.room) s.second_known (omega (arith, s.high)) d.fits f.fits);
          space = rw take_rest (omega (arith, ready.space, length-drop 4 table'));
        }

    split_two : split_over free j ≡ put (fill (fill free a.board a.room) b.board (j.work - a.room))
        (row_from free j.number a.board a.room ∷ row_from free j.number b.board (j.work - a.room) ∷ [])
    unfolding split_over two_rows row_on
    split_two =
        ap (λ (x : Spot). two_rows free j x (least_above j.work (rooms j.due free))) (sym s.first)
        ∙ ap (λ (x : Spot). two_rows free j a x) (sym s.second)
        ∙ pick_no _ _ _ (ne_eqb j.work a.room (λ e. omega (arith, s.low)))

    pub both_wrote : (free'' rest : List ℕ) → free'' ≡ fill free' b.board (j.work - a.room) →
        rest ≡ with_rows (row_from free' j.number b.board (j.work - a.room) ∷ []) (take (length table' - 4) (drop 4 table')) →
        Wrote (split_over free j) free table (Some 2) free'' (put_mid 4 (length table' - 4) table' rest)
    unfolding count_of free_after table_after
    both_wrote free'' rest later'' rest' =
        rw split_two (record {
          count = refl;
          later = later'' ∙ ap (λ (l : List ℕ). fill l b.board (j.work - a.room)) later;
          rows = ap (put_mid 4 (length table' - 4) table') rest'
              ∙ ap (λ (l : List ℕ). put_mid 4 (length l - 4) l (with_rows (row_from free' j.number b.board (j.work - a.room) ∷ [])
              (take (length l - 4) (drop 4 l)))) row
              ∙ rows_behind (row_from free j.number a.board a.room ∷ []) table
              (row_from free' j.number b.board (j.work - a.room) ∷ [])
              ∙ ap (λ (n : ℕ). with_rows (row_from free j.number a.board a.room ∷ record {
                board = suc b.board;
                job = j.number;
                from = n;
                to = n + (j.work - a.room);
              } ∷ []) table) apart;
        })

pub other_split : (free table : List ℕ) (j : Job) (s most : Spot) → most ≡ greatest_up_to j.due (rooms j.due free) →
    j.work ≤ most.room → 0 < length free → s ≡ least_above 0 (rooms j.due free) → s.room < j.work →
    (answer : Option ℕ) (free' table' : List ℕ) → Wrote (split_over free j) free table answer free' table' →
    Wrote (place_other free j) free table answer free' table'
other_split free table j s most m enough some e l answer free' table' w =
    rw (other_two free j some (rw m at enough) (rw e at l)) w
