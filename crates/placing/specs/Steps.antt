-- The steps by the tests that the code makes: each test of 01 over every room is one of the greatest or of the least room.
use Rattle.std.specs.Prelude.{◌≡◌, Bool, false, ◌&&◌, List, [], ◌∷◌, ℕ, zero, suc, ◌-◌, ◌≤◌, ◌<◌, length, true, ltb}
use Rattle.std.proofs.Common.{sym, ◌∙◌, ap, inl, inr, arith, ltb-true, ltb-false, lt-ltb, le-ltb, le-leb, eq-eqb, ne_eqb}
use Rattle.std.proofs.lemmas.Bool.{lt-leb}
use Rattle.rules.specs.Basics.{All, every}
use Rattle.rules.specs.Plans.{Job}
use Rattle.rules.specs.Planning.{cannot, rooms, greatest_up_to, least_above, one_row, two_rows, place_last, place_other}
use Rattle.laws.specs.Tests.{pick_yes, pick_no, and_yes, and_no_left, or_right, or_no, all_every}
use Rattle.placing.specs.Rows.{split_over}
use Rattle.placing.specs.Choice.{fits_open, rooms_up_to_due, greatest_below, greatest_bound, least_bound, least_fits, least_none}

below_every : (t due : ℕ) (free : List ℕ) → 0 < length free →
    every (λ r. ltb r t) (rooms due free) ≡ ltb (greatest_up_to due (rooms due free)).room t
unfolding every rooms
below_every t due [] h = absurd (omega arith)
below_every zero due (f ∷ free) h = and_no_left _ _ (le-ltb (due - f) 0 (omega arith))
    ∙ sym (le-ltb (greatest_up_to due (rooms due (f ∷ free))).room 0 (omega arith))
below_every (suc t) due (f ∷ free) h =
    sym (greatest_below due (suc t) (rooms due (f ∷ free)) (rooms_up_to_due due (f ∷ free))
    ∙ ap (λ (b : Bool). b && every (λ r. ltb r (suc t)) (rooms due (f ∷ free))) (lt-ltb 0 (suc t) (omega arith)))

-- B exists, where A does not take the whole job
pub split_above : (free : List ℕ) (t due : ℕ) → t ≤ (greatest_up_to due (rooms due free)).room →
    ((greatest_up_to t (rooms due free)).room ≡ t → ⊥) → t < (least_above t (rooms due free)).room
split_above free t due p ne = elim (least_bound t (rooms due free))
    [ inr l ↦ l | inl z ↦ absurd (ne (whole (least_none t (rooms due free) z))) ]
  where
    whole : All (λ r. r ≤ t) (rooms due free) → (greatest_up_to t (rooms due free)).room ≡ t
    whole a =
        let e : ltb (greatest_up_to t (rooms due free)).room t ≡ false = greatest_below t t (rooms due free) a
        ∙ sym (greatest_below due t (rooms due free) (rooms_up_to_due due free)) ∙ le-ltb _ _ p in
        omega (arith, ltb-false (greatest_up_to t (rooms due free)).room t e, greatest_bound t (rooms due free))

module _ (free : List ℕ) (j : Job) where
  pub last_cannot : (greatest_up_to j.due (rooms j.due free)).room < j.work → place_last free j ≡ cannot
  unfolding place_last
  last_cannot h = pick_yes _ _ _ (lt-ltb _ _ h)

  pub last_one : j.work ≤ (greatest_up_to j.due (rooms j.due free)).room →
      place_last free j ≡ one_row free j (greatest_up_to j.due (rooms j.due free)).board
  unfolding place_last
  last_one h = pick_no _ _ _ (le-ltb _ _ h)

  pub other_cannot : 0 < length free → (greatest_up_to j.due (rooms j.due free)).room < j.work → place_other free j ≡ cannot
  unfolding place_other
  other_cannot some h = pick_yes _ _ _ (below_every j.work j.due free some ∙ lt-ltb _ _ h)

  least_open : j.work ≤ (greatest_up_to j.due (rooms j.due free)).room → (least_above 0 (rooms j.due free)).room < j.work →
      fits_open j.work (least_above 0 (rooms j.due free)).room ≡ false
  unfolding fits_open
  least_open p q = or_no _ _ (ne_eqb (least_above 0 (rooms j.due free)).room 0 closed)
      (lt-leb j.work (least_above 0 (rooms j.due free)).room q)
    where
      closed : (least_above 0 (rooms j.due free)).room ≡ 0 → ⊥
      closed z =
          let a : every (λ r. ltb r j.work) (rooms j.due free) ≡ true = all_every (λ r. ltb r j.work) (λ r. r ≤ 0)
          (λ r l. lt-ltb r j.work (omega arith)) (rooms j.due free) (least_none 0 (rooms j.due free) z) in
          omega (
            arith,
            ltb-true (greatest_up_to j.due (rooms j.due free)).room j.work
                (greatest_below j.due j.work (rooms j.due free) (rooms_up_to_due j.due free)
                ∙ and_yes _ _ (lt-ltb 0 j.work (omega arith)) a),
          )

  pub other_one : 0 < length free → j.work ≤ (greatest_up_to j.due (rooms j.due free)).room →
      j.work ≤ (least_above 0 (rooms j.due free)).room →
      place_other free j ≡ one_row free j (least_above 0 (rooms j.due free)).board
  unfolding place_other fits_open
  other_one some p q =
      pick_no _ _ _ (below_every j.work j.due free some ∙ le-ltb _ _ p)
      ∙ pick_yes _ _ _ (sym (least_fits j.work (rooms j.due free)) ∙ or_right _ _ (le-leb j.work _ q))

  pub other_two : 0 < length free → j.work ≤ (greatest_up_to j.due (rooms j.due free)).room →
      (least_above 0 (rooms j.due free)).room < j.work → place_other free j ≡ split_over free j
  unfolding place_other split_over
  other_two some p q =
      pick_no _ _ _ (below_every j.work j.due free some ∙ le-ltb _ _ p)
      ∙ pick_no _ _ _ (sym (least_fits j.work (rooms j.due free)) ∙ least_open p q)

  pub split_one : (greatest_up_to j.work (rooms j.due free)).room ≡ j.work →
      split_over free j ≡ one_row free j (greatest_up_to j.work (rooms j.due free)).board
  unfolding split_over two_rows
  split_one e = pick_yes _ _ _ (eq-eqb _ _ (sym e))
