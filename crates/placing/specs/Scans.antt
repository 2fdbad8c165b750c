-- What a scan compares, and its laws: a room that is chosen, one that is not, and the same from a board of the list on.
use Rattle.std.specs.Prelude.{◌≡◌, refl, Bool, true, false, ◌&&◌, ◌||◌, ℕ, suc, ◌+◌, ◌-◌, ◌≤◌, ◌<◌, length, drop, get_or, ltb, leb, eqb, List, ◌∷◌}
use Rattle.std.proofs.Common.{◌∙◌, add-one, arith, drop_of_length-le, drop-cons, sym, ap}
use Rattle.std.proofs.lemmas.List.{length-map, get_or-map}
use Rattle.rules.specs.declared.Spot.{Spot}
use Rattle.rules.specs.Planning.{rooms, scan}
use Rattle.laws.specs.Tests.{pick_yes, pick_no}

-- what "greatest room not above the limit" and "least room above the limit" compare
abbrev pub greater_up_to : ℕ → ℕ → ℕ → Bool
greater_up_to limit room best = ltb best room && leb room limit

abbrev pub less_above : ℕ → ℕ → ℕ → Bool
less_above limit room best = ltb limit room && (eqb best 0 || ltb room best)

abbrev pub spot : ℕ → ℕ → Spot
spot board room = record { board = board; room = room }

pub length-rooms : (due : ℕ) (free : List ℕ) → length (rooms due free) ≡ length free
unfolding rooms
length-rooms due free = length-map free (λ f. due - f)

pub room_at : (due : ℕ) (free : List ℕ) (i : ℕ) → i < length free → get_or (rooms due free) i 0 ≡ due - get_or free i 0
unfolding rooms
room_at due free i h = get_or-map (λ f. due - f) free i 0 0 h

module _ (beats : ℕ → ℕ → Bool) (i : ℕ) (best : Spot) (r : ℕ) (rs : List ℕ) where
  pub scan_yes : beats r best.room ≡ true → scan beats i best (r ∷ rs) ≡ scan beats (suc i) (spot i r) rs
  unfolding scan
  scan_yes e = ap (λ (s : Spot). scan beats (suc i) s rs) (pick_yes _ _ _ e)

  pub scan_no : beats r best.room ≡ false → scan beats i best (r ∷ rs) ≡ scan beats (suc i) best rs
  unfolding scan
  scan_no e = ap (λ (s : Spot). scan beats (suc i) s rs) (pick_no _ _ _ e)

-- the choice among the boards from `i` on, against the best before them
unfoldable pub scan_rest : (ℕ → ℕ → Bool) → ℕ → List ℕ → ℕ → Spot → Spot
scan_rest beats due free i best = scan beats i best (drop i (rooms due free))

module _ (beats : ℕ → ℕ → Bool) (due : ℕ) (free : List ℕ) (best : Spot) where
  pub rest_start : scan_rest beats due free 0 best ≡ scan beats 0 best (rooms due free)
  unfolding scan_rest
  rest_start = refl

  pub rest_end : (i : ℕ) → length free ≤ i → best ≡ scan_rest beats due free i best
  unfolding scan_rest scan
  rest_end i h = sym (ap (scan beats i best) (drop_of_length-le (rooms due free) {i = i} (omega (arith, length-rooms due free))))

  rest_turn : (i here : ℕ) → here ≡ due - get_or free i 0 → i < length free →
      scan_rest beats due free i best ≡ scan beats i best (here ∷ drop (suc i) (rooms due free))
  unfolding scan_rest
  rest_turn i here e h = ap (scan beats i best) (drop-cons (rooms due free) i 0 (omega (arith, length-rooms due free))
      ∙ ap (λ (r : ℕ). r ∷ drop (suc i) (rooms due free)) (room_at due free i h ∙ sym e))

  pub rest_yes : (i here : ℕ) → here ≡ due - get_or free i 0 → i < length free → beats here best.room ≡ true →
      scan_rest beats due free (i + 1) (spot i here) ≡ scan_rest beats due free i best
  unfolding scan_rest
  rest_yes i here e h b = ap (λ (k : ℕ). scan beats k (spot i here) (drop k (rooms due free))) (add-one i)
      ∙ sym (rest_turn i here e h ∙ scan_yes beats i best here _ b)

  pub rest_no : (i here : ℕ) → here ≡ due - get_or free i 0 → i < length free → beats here best.room ≡ false →
      scan_rest beats due free (i + 1) best ≡ scan_rest beats due free i best
  unfolding scan_rest
  rest_no i here e h b = ap (λ (k : ℕ). scan beats k best (drop k (rooms due free))) (add-one i)
      ∙ sym (rest_turn i here e h ∙ scan_no beats i best here _ b)
