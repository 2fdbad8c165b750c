-- Laws of the choice of boards. Two laws of `scan` carry all: what holds of every spot that is chosen on the way holds of the
-- one chosen at last; and a test that passes from a chosen room to the room it beats, and from a best room to the rooms that
-- it keeps out, holds of the last room exactly where it holds of every room.
use Rattle.std.specs.Prelude.{◌≡◌, refl, Bool, true, false, ◌&&◌, ◌||◌, List, [], ◌∷◌, ◌⊎◌, ℕ, suc, ◌+◌, ◌-◌, ◌≤◌, ◌<◌, ◌^◌, length, get_or, leb, ltb, eqb}
use Rattle.std.proofs.Common.{sym, ◌∙◌, ap, inl, inr, arith, get_or-set_same, get_or-set_other, ltb-true, leb-true, eqb-true}
use Rattle.std.proofs.lemmas.Bool.{eqb-false}
use Rattle.std.proofs.lemmas.Bool.Decides.{nat_tests}
use Rattle.std.proofs.Math.Bool.{and-true}
use Rattle.rules.specs.declared.Spot.{Spot}
use Rattle.rules.specs.Basics.{All, every}
use Rattle.rules.specs.Planning.{rooms, scan, none, greatest_up_to, least_above, fill}
use Rattle.laws.specs.Tests.{pick_yes, pick_no, decided, and_left, and_right}
use Rattle.placing.specs.Scans.{spot, scan_yes, scan_no, length-rooms, room_at, greater_up_to, less_above}

-- what each chosen spot has, the last one has
scan_keeps : (beats : ℕ → ℕ → Bool) (I : Spot → Type 0) (k : ℕ) (best : Spot) (rs : List ℕ) → I best →
    ((i b board : ℕ) → board ≡ k + i → i < length rs → beats (get_or rs i 0) b ≡ true → I (spot board (get_or rs i 0))) →
    I (scan beats k best rs)
unfolding scan
scan_keeps beats I k best [] h f = h
scan_keeps beats I k best (r ∷ rs) h f =
    elim (decided (beats r best.room)) [
      | inl e ↦ rw (pick_yes _ _ _ e) (scan_keeps beats I (suc k) (spot k r) rs
          (f 0 best.room k (omega arith) (omega arith) e) (λ i b board p l. f (suc i) b board (omega arith) (omega arith)))
      | inr e ↦ rw (pick_no _ _ _ e) (scan_keeps beats I (suc k) best rs h
          (λ i b board p l. f (suc i) b board (omega arith) (omega arith)))
    ]

and_drops : (a b c : Bool) → (b ≡ true → a ≡ true) → (b && c) ≡ (a && (b && c))
and_drops a b c h = grind (arith, nat_tests)

and_adds : (a b c : Bool) → (a ≡ true → b ≡ true) → (a && c) ≡ (a && (b && c))
and_adds a b c h = grind (arith, nat_tests)

-- a test holds of the last room where it holds of the best before and of every room
scan_all : (beats : ℕ → ℕ → Bool) (P : ℕ → Bool) (Q : ℕ → Type 0)
    → ((room best : ℕ) → Q room → beats room best ≡ true → P room ≡ true → P best ≡ true)
    → ((room best : ℕ) → Q room → beats room best ≡ false → P best ≡ true → P room ≡ true)
    → (k : ℕ) (best : Spot) (rs : List ℕ) → All Q rs → P (scan beats k best rs).room ≡ (P best.room && every P rs)
unfolding scan every
scan_all beats P Q win lose k best [] a = sym (and-true (P best.room))
scan_all beats P Q win lose k best (r ∷ rs) a =
    elim (decided (beats r best.room)) [
      | inl e ↦ ap (λ (s : Spot). P s.room) (scan_yes beats k best r rs e)
          ∙ scan_all beats P Q win lose (suc k) (spot k r) rs a.1
          ∙ and_drops (P best.room) (P r) (every P rs) (win r best.room a.0 e)
      | inr e ↦ ap (λ (s : Spot). P s.room) (scan_no beats k best r rs e)
          ∙ scan_all beats P Q win lose (suc k) best rs a.1
          ∙ and_adds (P best.room) (P r) (every P rs) (lose r best.room a.0 e)
    ]

pub rooms_up_to_due : (due : ℕ) (free : List ℕ) → All (λ r. r ≤ due) (rooms due free)
unfolding rooms
rooms_up_to_due due [] = tt
rooms_up_to_due due (f ∷ free) = (omega arith, rooms_up_to_due due free)

-- a board of the list; its room is the one found, unless there was none
pub record Spotted (due : ℕ) (free : List ℕ) (s : Spot) : Type 0 where
  pub known : s.board < length free
  pub measured : (s.room ≡ 0) ⊎ (s.room ≡ due - get_or free s.board 0)

scan_spotted : (beats : ℕ → ℕ → Bool) (due : ℕ) (free : List ℕ) → 0 < length free →
    Spotted due free (scan beats 0 none (rooms due free))
unfolding none
scan_spotted beats due free h =
    scan_keeps beats (Spotted due free) 0 none (rooms due free) (record { known = h; measured = inl refl })
    (λ i b board p l e. record { known = omega (arith, length-rooms due free); measured = inr (found i board p l) })
  where
    found : (i board : ℕ) → board ≡ 0 + i → i < length (rooms due free) → get_or (rooms due free) i 0 ≡ due - get_or free board 0
    found i board p l = let q : i ≡ board = omega arith in room_at due free i (omega (arith, length-rooms due free))
        ∙ ap (λ (n : ℕ). due - get_or free n 0) q

pub greatest_spotted : (limit due : ℕ) (free : List ℕ) → 0 < length free →
    Spotted due free (greatest_up_to limit (rooms due free))
unfolding greatest_up_to
greatest_spotted limit due free h = scan_spotted (greater_up_to limit) due free h

pub least_spotted : (limit due : ℕ) (free : List ℕ) → 0 < length free → Spotted due free (least_above limit (rooms due free))
unfolding least_above
least_spotted limit due free h = scan_spotted (less_above limit) due free h

pub greatest_bound : (limit : ℕ) (rs : List ℕ) → (greatest_up_to limit rs).room ≤ limit
unfolding greatest_up_to none
greatest_bound limit rs = scan_keeps (greater_up_to limit) (λ s. s.room ≤ limit) 0 none rs
    (omega arith) (λ i b board p l e. leb-true _ _ (and_right (ltb b (get_or rs i 0)) (leb (get_or rs i 0) limit) e))

pub least_bound : (limit : ℕ) (rs : List ℕ) → ((least_above limit rs).room ≡ 0) ⊎ (limit < (least_above limit rs).room)
unfolding least_above none
least_bound limit rs = scan_keeps (less_above limit)
    (λ s. (s.room ≡ 0) ⊎ (limit < s.room)) 0 none rs (inl refl)
    (λ i b board p l e. inr (ltb-true _ _ (and_left (ltb limit (get_or rs i 0)) (eqb b 0 || ltb (get_or rs i 0) b) e)))

greater_win : (limit t room best : ℕ) → room ≤ limit → greater_up_to limit room best ≡ true → ltb room t ≡ true →
    ltb best t ≡ true
greater_win limit t room best q e p = grind (arith, nat_tests)

greater_lose : (limit t room best : ℕ) → room ≤ limit → greater_up_to limit room best ≡ false → ltb best t ≡ true →
    ltb room t ≡ true
greater_lose limit t room best q e p = grind (arith, nat_tests)

-- 2: "If t exceeds every room" asks the greatest room
pub greatest_below : (limit t : ℕ) (rs : List ℕ) → All (λ r. r ≤ limit) rs →
    ltb (greatest_up_to limit rs).room t ≡ (ltb 0 t && every (λ r. ltb r t) rs)
unfolding greatest_up_to none
greatest_below limit t rs a =
    scan_all (greater_up_to limit) (λ r. ltb r t) (λ r. r ≤ limit)
    (greater_win limit t) (greater_lose limit t) 0 none rs a

-- 3: "If t is at most every room that isn't 0" asks the least room
unfoldable pub fits_open : ℕ → ℕ → Bool
fits_open t r = eqb r 0 || leb t r

least_win : (t room best : ℕ) → Unit {0} → less_above 0 room best ≡ true → fits_open t room ≡ true → fits_open t best ≡ true
unfolding fits_open
least_win t room best q e p = grind (arith, nat_tests)

least_lose : (t room best : ℕ) → Unit {0} → less_above 0 room best ≡ false → fits_open t best ≡ true → fits_open t room ≡ true
unfolding fits_open
least_lose t room best q e p = grind (arith, nat_tests)

pub least_fits : (t : ℕ) (rs : List ℕ) → fits_open t (least_above 0 rs).room ≡ every (λ r. eqb r 0 || leb t r) rs
unfolding least_above none fits_open
least_fits t rs =
    scan_all (less_above 0) (fits_open t) (λ r. Unit {0})
    (least_win t) (least_lose t) 0 none rs (all_unit rs)
  where
    all_unit : (rs : List ℕ) → All (λ r. Unit {0}) rs
    all_unit [] = tt
    all_unit (r ∷ rs) = (tt, all_unit rs)

not_chosen : (limit room best : ℕ) → less_above limit room best ≡ true → room ≡ 0 → ⊥
not_chosen limit room best e z = grind (arith, nat_tests)

none_above : (limit room best : ℕ) → less_above limit room best ≡ false → best ≡ 0 → room ≤ limit
none_above limit room best e z = grind (arith, nat_tests)

-- where no room is above the limit, none is found
scan_least_none : (limit k : ℕ) (best : Spot) (rs : List ℕ) → (scan (less_above limit) k best rs).room ≡ 0 →
    (best.room ≡ 0) × All (λ r. r ≤ limit) rs
unfolding scan
scan_least_none limit k best [] e = (e, tt)
scan_least_none limit k best (r ∷ rs) e =
    elim (decided (less_above limit r best.room)) [
      | inl h ↦ absurd (not_chosen limit r best.room h (scan_least_none limit (suc k) (spot k r) rs
          (sym (ap (λ (s : Spot). s.room) (scan_yes (less_above limit) k best r rs h)) ∙ e)).0)
      | inr h ↦ let (z, a) = scan_least_none limit (suc k) best rs
          (sym (ap (λ (s : Spot). s.room) (scan_no (less_above limit) k best r rs h)) ∙ e) in (z, (none_above limit r best.room h z, a))
    ]

pub least_none : (limit : ℕ) (rs : List ℕ) → (least_above limit rs).room ≡ 0 → All (λ r. r ≤ limit) rs
unfolding least_above
least_none limit rs e = (scan_least_none limit 0 none rs e).1

-- a row of at most the room found ends at a number of 32 bits
pub spot_fits : (due : ℕ) (free : List ℕ) (s : Spot) (minutes : ℕ) → Spotted due free s → minutes ≤ s.room → due < 2 ^ 32 →
    get_or free s.board 0 < 2 ^ 32 → get_or free s.board 0 + minutes < 2 ^ 32
spot_fits due free s minutes h l d f = elim h.measured [ inl e ↦ omega arith | inr e ↦ omega arith ]

-- two boards of unequal room: filling the one leaves the other's free-from minute as it is
pub fill_apart : (due : ℕ) (free : List ℕ) (a b : Spot) → Spotted due free a → Spotted due free b → a.room < b.room →
    get_or (fill free a.board a.room) b.board 0 ≡ get_or free b.board 0
unfolding fill
fill_apart due free a b p q l =
    elim (decided (eqb b.board a.board)) [
      | inr h ↦ get_or-set_other free a.board b.board _ 0 (eqb-false b.board a.board h)
      | inl h ↦ let e : b.board ≡ a.board = eqb-true b.board a.board h in
          rw e (get_or-set_same free a.board _ 0 p.known ∙ none_added e)
    ]
  where
    none_added : b.board ≡ a.board → get_or free a.board 0 + a.room ≡ get_or free a.board 0
    none_added e = elim p.measured [
      | inl z ↦ omega arith
      | inr x ↦ elim q.measured [
        | inl z ↦ absurd (omega arith)
        | inr y ↦ absurd (omega (arith, ap (λ (n : ℕ). due - get_or free n 0) e))
      ]
    ]
