-- Laws of bytes, words and tokens, for the proofs to cite.
use Rattle.std.specs.Prelude.{◌≡◌, refl, Bool, true, false, not, ◌&&◌, ◌||◌, List, [], ◌∷◌, ◌++◌, ℕ, zero, suc, ◌+◌, ◌*◌, ◌-◌, ◌^◌, ◌≤◌, ◌<◌, max, length, take, drop, get_or, leb, ltb, eqb}
use Rattle.std.proofs.Common.{sym, ap, ◌∙◌, inl, inr, pow-suc, lt_of_le_of_lt, add-one, arith, length-drop, drop_of_length-le, drop-cons, take-suc, get_or-drop, lit<, eqb-true, eq-eqb, ne_eqb, ltb-true, ltb-false}
use Rattle.std.proofs.Math.Nat.{pow-le-pow_right}
use Rattle.std.proofs.lemmas.Bool.{lt-leb}
use Rattle.std.specs.List.{list_all, zip}
use Rattle.rules.specs.declared.Word.TheVariants.{Order, Group, Job, Number, Other}
use Rattle.rules.specs.declared.Token.{Token}
use Rattle.rules.specs.declared.Token.TheVariants.{Open, Close, Atom, End, Foreign}
use Rattle.rules.specs.Basics.{pick, is_empty, every, within, text, most_digits}
use Rattle.rules.specs.Tokens.{Placed, is_number, is_digit, is_letter_or_digit, is_blank, value_from, same, kind, between, closing, tokens_from}
use Rattle.laws.specs.Tests.{decided, pick_yes, pick_no, or_cases, and_left, and_right, and_no_left, and_no_right, within_yes, within_low, within_high}
use Rattle.lexer.specs.Scan.{tokens_at, is_last, behind, placed, NextToken, BlanksSkipped, AtomRead, RunEnd}

-- ---- bytes
pub digit_below : (b : ℕ) → b < 48 → is_digit b ≡ false
unfolding is_digit within
digit_below b h = and_no_left (leb 48 b) (leb b 57) (lt-leb 48 b h)

pub letter_below : (b : ℕ) → b < 97 → is_letter_or_digit b ≡ is_digit b
unfolding is_letter_or_digit within
letter_below b h = ap (λ (t : Bool). (t && leb b 122) || is_digit b) (lt-leb 97 b h)

-- no byte of a kind of its own is a letter or a digit
pub no_letter : (b : ℕ) → b < 48 → is_letter_or_digit b ≡ false
no_letter b h = letter_below b (omega arith) ∙ digit_below b h

blank_no_letter : (b : ℕ) → is_blank b ≡ true → is_letter_or_digit b ≡ false
unfolding is_blank
blank_no_letter b e =
    elim (or_cases (eqb b 32) (eqb b 10) e) [ inl h ↦ no_letter b (omega (arith, eqb-true b 32 h)) | inr h ↦ no_letter b (omega (arith, eqb-true b 10 h)) ]

-- ---- words
pub same_no_length : (a b : List ℕ) → (length a ≡ length b → ⊥) → same a b ≡ false
unfolding same
same_no_length [] [] h = absurd (h refl)
same_no_length [] (y ∷ b) h = refl
same_no_length (x ∷ a) [] h = refl
same_no_length (x ∷ a) (y ∷ b) h = and_no_right (eqb x y) _ (same_no_length a b (λ e. h (ap suc e)))

pub all_same : (a b : List ℕ) → length a ≡ length b → list_all (λ (p : ℕ × ℕ). eqb p.0 p.1) (zip a b) ≡ same a b
unfolding same
all_same [] [] h = refl
all_same [] (y ∷ b) h = absurd (omega (arith, h))
all_same (x ∷ a) [] h = absurd (omega (arith, h))
all_same (x ∷ a) (y ∷ b) h = ap (λ (t : Bool). eqb x y && t) (all_same a b (omega (arith, h)))

-- a loop over a word from its start, where the answer from here is the answer from the start
pub every_end : (p : ℕ → Bool) (w : List ℕ) (i : ℕ) → length w ≤ i → every p (drop i w) ≡ true
unfolding every
every_end p w i h = rw (drop_of_length-le w {i = i} h)

pub every_more : (p : ℕ → Bool) (w : List ℕ) (i : ℕ) → i < length w → p (get_or w i 0) ≡ true → every p (drop i w) ≡ every p (drop (i + 1) w)
unfolding every
every_more p w i h e = rw (add-one, drop-cons w i 0 h, e)

pub every_fails : (p : ℕ → Bool) (w : List ℕ) (i : ℕ) → i < length w → p (get_or w i 0) ≡ false → every p (drop i w) ≡ false
unfolding every
every_fails p w i h e = rw (drop-cons w i 0 h, e)

pub value_end : (n : ℕ) (w : List ℕ) (i : ℕ) → length w ≤ i → value_from n (drop i w) ≡ n
unfolding value_from
value_end n w i h = rw (drop_of_length-le w {i = i} h)

pub value_step : (n : ℕ) (w : List ℕ) (i : ℕ) → i < length w → value_from n (drop i w) ≡ value_from (n * 10 + (get_or w i 0 - 48)) (drop (i + 1) w)
unfolding value_from
value_step n w i h = rw (add-one, drop-cons w i 0 h)

-- ---- tokens
pub tokens_end : (s : List ℕ) (at : ℕ) → length s ≤ at → tokens_at s at ≡ placed End at ∷ []
unfolding tokens_at tokens_from closing
tokens_end s at h = rw (drop_of_length-le s {i = at} h)

-- outside atoms, at a byte that is no letter and no digit
tokens_between : (s : List ℕ) (i : ℕ) → i < length s → is_letter_or_digit (get_or s i 0) ≡ false → tokens_at s i ≡ between i (get_or s i 0) (tokens_at s (i + 1))
unfolding tokens_at tokens_from closing
tokens_between s i h e = rw (add-one, drop-cons s i 0 h, e)

pub tokens_blank : (s : List ℕ) (i : ℕ) → i < length s → is_blank (get_or s i 0) ≡ true → tokens_at s i ≡ tokens_at s (i + 1)
unfolding between
tokens_blank s i h e = tokens_between s i h (blank_no_letter (get_or s i 0) e) ∙ pick_yes (is_blank (get_or s i 0)) _ _ e

module _ (s : List ℕ) (i : ℕ) (h : i < length s) (n : is_blank (get_or s i 0) ≡ false) where
  pub tokens_open : get_or s i 0 ≡ 40 → tokens_at s i ≡ placed Open i ∷ tokens_at s (i + 1)
  unfolding between
  tokens_open e =
      tokens_between s i h (no_letter (get_or s i 0) (omega arith))
      ∙ pick_no (is_blank (get_or s i 0)) _ _ n
      ∙ pick_yes (eqb (get_or s i 0) 40) _ _ (eq-eqb (get_or s i 0) 40 e)

  pub tokens_close : get_or s i 0 ≡ 41 → tokens_at s i ≡ placed Close i ∷ tokens_at s (i + 1)
  unfolding between
  tokens_close e =
      tokens_between s i h (no_letter (get_or s i 0) (omega arith))
      ∙ pick_no (is_blank (get_or s i 0)) _ _ n
      ∙ pick_no (eqb (get_or s i 0) 40) _ _ (ne_eqb (get_or s i 0) 40 (λ q. absurd (omega arith)))
      ∙ pick_yes (eqb (get_or s i 0) 41) _ _ (eq-eqb (get_or s i 0) 41 e)

  pub tokens_foreign : is_letter_or_digit (get_or s i 0) ≡ false → (get_or s i 0 ≡ 40 → ⊥) → (get_or s i 0 ≡ 41 → ⊥) → tokens_at s i ≡ placed Foreign i ∷ []
  unfolding between
  tokens_foreign l o c =
      tokens_between s i h l
      ∙ pick_no (is_blank (get_or s i 0)) _ _ n
      ∙ pick_no (eqb (get_or s i 0) 40) _ _ (ne_eqb (get_or s i 0) 40 o)
      ∙ pick_no (eqb (get_or s i 0) 41) _ _ (ne_eqb (get_or s i 0) 41 c)

-- ---- atoms: the bytes from `from` up to i, and the tokens with them as the atom read so far
unfoldable pub part : List ℕ → ℕ → ℕ → List ℕ
part s from i = take (i - from) (drop from s)

unfoldable pub in_atom : List ℕ → ℕ → ℕ → List Placed
in_atom s from i = tokens_from from (part s from i) i (drop i s)

part_more : (s : List ℕ) (from i : ℕ) → from ≤ i → i < length s → part s from (i + 1) ≡ part s from i ++ (get_or s i 0 ∷ [])
unfolding part
part_more s from i h k =
    let l : i - from < length (drop from s) = rw length-drop (omega arith) in
    let e : i + 1 - from ≡ suc (i - from) = omega arith in
    let g : from + (i - from) ≡ i = omega arith in
    rw e (take-suc (drop from s) (i - from) 0 l ∙ ap (λ (b : ℕ). take (i - from) (drop from s) ++ (b ∷ [])) (get_or-drop from s (i - from) 0 ∙ ap (λ (j : ℕ). get_or s j 0) g))

part_none : (s : List ℕ) (from : ℕ) → part s from from ≡ []
unfolding part
part_none s from =
    let e : from - from ≡ 0 = omega arith in
    ap (λ (n : ℕ). take n (drop from s)) e

part_some : (s : List ℕ) (from i : ℕ) → from < i → from < length s → (b : ℕ) × (w : List ℕ) × (part s from i ≡ b ∷ w)
unfolding part
part_some s from i h k =
    let e : i - from ≡ suc (i - from - 1) = omega arith in
    (get_or s from 0, take (i - from - 1) (drop (suc from) s), ap (λ (n : ℕ). take n (drop from s)) e ∙ ap (take (suc (i - from - 1))) (drop-cons s from 0 k))

longer : (p : ℕ) (w : List ℕ) (s : List ℕ) (i : ℕ) → i < length s → is_letter_or_digit (get_or s i 0) ≡ true → tokens_from p w i (drop i s) ≡ tokens_from (pick (is_empty w) i p) (w ++ (get_or s i 0 ∷ [])) (i + 1) (drop (i + 1) s)
unfolding tokens_from
longer p w s i h e = rw (add-one, drop-cons s i 0 h, e)

pub atom_first : (s : List ℕ) (from : ℕ) → from < length s → is_letter_or_digit (get_or s from 0) ≡ true → tokens_at s from ≡ in_atom s from (from + 1)
unfolding tokens_at in_atom
atom_first s from h e =
    longer 0 [] s from h e
    ∙ ap (λ (w : List ℕ). tokens_from from w (from + 1) (drop (from + 1) s)) (sym (part_more s from from (omega arith) h ∙ ap (λ (w : List ℕ). w ++ (get_or s from 0 ∷ [])) (part_none s from)))

pub atom_more : (s : List ℕ) (from i : ℕ) → from < i → i < length s → is_letter_or_digit (get_or s i 0) ≡ true → in_atom s from i ≡ in_atom s from (i + 1)
unfolding in_atom
atom_more s from i h k e =
    let (b, w, q) = part_some s from i h (omega arith) in
    longer from (part s from i) s i k e
    ∙ ap (λ (v : List ℕ). tokens_from (pick (is_empty v) i from) (part s from i ++ (get_or s i 0 ∷ [])) (i + 1) (drop (i + 1) s)) q
    ∙ ap (λ (v : List ℕ). tokens_from from v (i + 1) (drop (i + 1) s)) (sym (part_more s from i (omega arith) k))

closed_end : (p b : ℕ) (w : List ℕ) (at : ℕ) → tokens_from p (b ∷ w) at [] ≡ placed (Atom (kind (b ∷ w))) p ∷ tokens_from 0 [] at []
unfolding tokens_from closing
closed_end p b w at = refl

closed_byte : (p b : ℕ) (w : List ℕ) (at x : ℕ) (xs : List ℕ) → is_letter_or_digit x ≡ false → tokens_from p (b ∷ w) at (x ∷ xs) ≡ placed (Atom (kind (b ∷ w))) p ∷ tokens_from 0 [] at (x ∷ xs)
unfolding tokens_from closing
closed_byte p b w at x xs e = rw e

pub atom_at_end : (s : List ℕ) (from i : ℕ) → from < i → from < length s → length s ≤ i → in_atom s from i ≡ placed (Atom (kind (part s from i))) from ∷ tokens_at s i
unfolding in_atom tokens_at
atom_at_end s from i h k l =
    let (b, w, q) = part_some s from i h k in
    rw (drop_of_length-le s {i = i} l, q) (closed_end from b w i)

pub atom_at_byte : (s : List ℕ) (from i : ℕ) → from < i → i < length s → is_letter_or_digit (get_or s i 0) ≡ false → in_atom s from i ≡ placed (Atom (kind (part s from i))) from ∷ tokens_at s i
unfolding in_atom tokens_at
atom_at_byte s from i h k e =
    let (b, w, q) = part_some s from i h (omega arith) in
    rw (drop-cons s i 0 k, q) (closed_byte from b w i (get_or s i 0) (drop (suc i) s) e)

-- ---- numbers
-- seven digits at most, so that no sum on the way is too large
pub value_fits : (i n d : ℕ) → i < 7 → n < 10 ^ i → d ≤ 9 → (n * 10 + d < 10000000) × (n * 10 + d < 10 ^ (i + 1))
value_fits i n d h k l =
    let e : 10 ^ (i + 1) ≡ 10 ^ i * 10 = ap (λ (j : ℕ). 10 ^ j) (add-one i) ∙ pow-suc 10 i in
    let j : i ≤ 6 = omega arith in
    let m : 10 ^ i ≤ 10 ^ 6 = pow-le-pow_right (lit< tt) j in
    (omega arith, omega arith)

pub number_short : (w : List ℕ) → is_number w ≡ true → length w ≤ most_digits
unfolding is_number
number_short w e = within_high 1 7 (length w) (and_left (within 1 most_digits (length w)) (every is_digit w && not (eqb (get_or w 0 0) 48)) e)

pub number_all : (w : List ℕ) → is_number w ≡ true → every is_digit w ≡ true
unfolding is_number
number_all w e = and_left (every is_digit w) (not (eqb (get_or w 0 0) 48)) (and_right (within 1 most_digits (length w)) (every is_digit w && not (eqb (get_or w 0 0) 48)) e)

pub number_long : (w : List ℕ) → 7 < length w → is_number w ≡ false
unfolding is_number within
number_long w h = and_no_left _ _ (ap (λ (t : Bool). leb 1 (length w) && t) (lt-leb (length w) 7 h) ∙ and_no_right (leb 1 (length w)) false refl)

pub number_empty : (w : List ℕ) → length w ≡ 0 → is_number w ≡ false
unfolding is_number within
number_empty w h = and_no_left _ _ (and_no_left _ _ (lt-leb 1 (length w) (omega arith)))

pub number_zero : (w : List ℕ) → get_or w 0 0 ≡ 48 → is_number w ≡ false
unfolding is_number
number_zero w h = and_no_right (within 1 most_digits (length w)) _ (and_no_right (every is_digit w) _ (ap not (eq-eqb (get_or w 0 0) 48 h)))

pub number_digits : (w : List ℕ) → (length w ≡ 0 → ⊥) → length w ≤ 7 → (get_or w 0 0 ≡ 48 → ⊥) → is_number w ≡ every is_digit w
unfolding is_number
number_digits w n l z =
    ap (λ (t : Bool). t && (every is_digit w && not (eqb (get_or w 0 0) 48))) (within_yes 1 7 (length w) (omega arith) l)
    ∙ ap (λ (t : Bool). every is_digit w && not t) (ne_eqb (get_or w 0 0) 48 z)
    ∙ and_true (every is_digit w)
  where
    and_true : (t : Bool) → (t && true) ≡ t
    and_true true = refl
    and_true false = refl

pub digit_is : (b : ℕ) → is_digit b ≡ true → (48 ≤ b) × (b ≤ 57)
unfolding is_digit
digit_is b d = (within_low 48 57 b d, within_high 48 57 b d)

-- ---- kinds, in the definition's order
pub kind_order : (w : List ℕ) → same w (text "order") ≡ true → kind w ≡ Order
unfolding kind
kind_order w o = pick_yes (same w (text "order")) _ _ o

module _ (w : List ℕ) (o : same w (text "order") ≡ false) where
  pub kind_group : same w (text "group") ≡ true → kind w ≡ Group
  unfolding kind
  kind_group g = pick_no (same w (text "order")) _ _ o ∙ pick_yes (same w (text "group")) _ _ g

  module _ (g : same w (text "group") ≡ false) where
    pub kind_job : same w (text "job") ≡ true → kind w ≡ Job
    unfolding kind
    kind_job j = pick_no (same w (text "order")) _ _ o ∙ pick_no (same w (text "group")) _ _ g ∙ pick_yes (same w (text "job")) _ _ j

    pub kind_rest : same w (text "job") ≡ false → kind w ≡ pick (is_number w) (Number (value_from 0 w)) Other
    unfolding kind
    kind_rest j = pick_no (same w (text "order")) _ _ o ∙ pick_no (same w (text "group")) _ _ g ∙ pick_no (same w (text "job")) _ _ j

-- ---- the token behind the blanks
pub seen : (s : List ℕ) (at from : ℕ) → BlanksSkipped s at from → (t : Token) (next : ℕ) → tokens_at s from ≡ placed t from ∷ behind t (tokens_at s next) → (is_last t ≡ false → from < next) → (from ≤ length s → next ≤ length s) → NextToken s at (record { token = t; place = from; next = next })
seen s at from b t next e m i = record {
  tells = b.same_tokens ∙ e;
  moves = λ h. lt_of_le_of_lt b.onward (m h);
  inside = λ h. (b.inside h, i (b.inside h));
}

-- ---- runs of bytes
blanks_run : (n : ℕ) (s : List ℕ) (at : ℕ) → at + n ≤ max at (length s) → ((k : ℕ) → at ≤ k → k < at + n → is_blank (get_or s k 0) ≡ true) → tokens_at s at ≡ tokens_at s (at + n)
blanks_run zero s at h met = let e : at ≡ at + 0 = omega arith in ap (tokens_at s) e
blanks_run (suc n) s at h met =
    let e : at + 1 + n ≡ at + suc n = omega arith in
    tokens_blank s at (omega arith) (met at (omega arith) (omega arith)) ∙ blanks_run n s (at + 1) (omega arith) (λ k l u. met k (omega arith) (omega arith)) ∙ ap (tokens_at s) e

pub blanks_skipped : (test : ℕ → Bool → Type 0) → ((b : ℕ) (t : Bool) → test b t → t ≡ is_blank b) → (s : List ℕ) (at r : ℕ) → RunEnd test s at r → BlanksSkipped s at r
blanks_skipped test reads s at r run =
    let e : at + (r - at) ≡ r = omega (arith, run.onward) in
    record {
      same_tokens = blanks_run (r - at) s at (omega (arith, run.onward, run.inside)) (λ k l u. sym (reads _ _ (run.met k l (omega (arith, run.onward))))) ∙ ap (tokens_at s) e;
      onward = run.onward;
      inside = λ h. omega (arith, run.inside);
      no_blank = λ h. sym (reads _ _ (run.ended h));
    }

letters_run : (n : ℕ) (s : List ℕ) (from i : ℕ) → from < i → i + n ≤ length s → ((k : ℕ) → i ≤ k → k < i + n → is_letter_or_digit (get_or s k 0) ≡ true) → in_atom s from i ≡ in_atom s from (i + n)
letters_run zero s from i f h met = let e : i ≡ i + 0 = omega arith in ap (in_atom s from) e
letters_run (suc n) s from i f h met =
    let e : i + 1 + n ≡ i + suc n = omega arith in
    atom_more s from i f (omega arith) (met i (omega arith) (omega arith)) ∙ letters_run n s from (i + 1) (omega arith) (omega arith) (λ k l u. met k (omega arith) (omega arith)) ∙ ap (in_atom s from) e

pub atom_read : (test : ℕ → Bool → Type 0) → ((b : ℕ) (t : Bool) → test b t → t ≡ is_letter_or_digit b) → (s : List ℕ) (from r : ℕ) → from < length s → is_letter_or_digit (get_or s from 0) ≡ true → RunEnd test s (from + 1) r → AtomRead s from r
unfolding part
atom_read test reads s from r h e run =
    record {
      tells = atom_first s from h e ∙ letters_run (r - (from + 1)) s from (from + 1) (omega arith) (omega (arith, run.onward, run.inside)) (λ k l u. sym (reads _ _ (run.met k l (omega (arith, run.onward))))) ∙ ap (in_atom s from) to ∙ ends;
      onward = omega (arith, run.onward);
      inside = omega (arith, run.inside);
    }
  where
    to : from + 1 + (r - (from + 1)) ≡ r
    to = omega (arith, run.onward)

    ends : in_atom s from r ≡ placed (Atom (kind (part s from r))) from ∷ tokens_at s r
    ends = elim (decided (ltb r (length s))) [
      | inl l ↦ atom_at_byte s from r (omega (arith, run.onward)) (ltb-true _ _ l) (sym (reads _ _ (run.ended (ltb-true _ _ l))))
      | inr l ↦ atom_at_end s from r (omega (arith, run.onward)) h (ltb-false _ _ l)
    ]
