-- Laws of the definition's steps and of what the lists hold, for the proofs to cite.
use Rattle.std.specs.Prelude.{◌≡◌, refl, List, [], ◌∷◌, ◌++◌, ℕ, suc, ◌+◌, ◌-◌, ◌≤◌, ◌<◌, min, length, take, get_or, set, leb, eqb}
use Rattle.std.proofs.Common.{ap, subst, sym, ◌∙◌, add-one, arith, length-append, take-suc-set, get_or-set_other, get_or-set_same, eq-eqb, ne_eqb}
use Rattle.rules.specs.declared.Word.{Word}
use Rattle.rules.specs.declared.Word.TheVariants.{Order, Group, Job, Number, Other}
use Rattle.rules.specs.declared.Token.{Token}
use Rattle.rules.specs.declared.Token.TheVariants.{Open, Close, Atom, End, Foreign}
use Rattle.rules.specs.declared.Wanted.{Wanted}
use Rattle.rules.specs.declared.Wanted.TheVariants.{Boards, ItemOrClose, GroupDue, JobWork, JobDue, JobClose, Finish}
use Rattle.rules.specs.declared.Refusal.TheVariants.{NotAllowed, NoNumber, AboveLimit}
use Rattle.rules.specs.Basics.{pick, is_empty, most_jobs}
use Rattle.rules.specs.Orders.{Reading, Step, go, stop, least_due, up_to, atom_number, number, atom_word, word, bracket, ending, leave}
use Rattle.laws.specs.Tests.{pick_yes, pick_no}
use Rattle.grammar.specs.declared.Turn.TheVariants.{Want, Take}
use Rattle.grammar.specs.Turns.{misplaced_as, taken, left, acted, capped, Held, deepest, fullest, half, Sound, Shows}

-- ---- a token or a word where another is wanted
pub bracket_misplaced : (t : Token) (p : ℕ) (a b : Step) → (t ≡ Open → ⊥) → (t ≡ Close → ⊥) → bracket t p a b ≡ stop (misplaced_as t) p
unfolding bracket misplaced_as
bracket_misplaced Open p a b o c = absurd (o refl)
bracket_misplaced Close p a b o c = absurd (c refl)
bracket_misplaced (Atom w) p a b o c = refl
bracket_misplaced End p a b o c = refl
bracket_misplaced Foreign p a b o c = refl

pub ending_misplaced : (t : Token) (p : ℕ) (a : Step) → (t ≡ End → ⊥) → ending t p a ≡ stop (misplaced_as t) p
unfolding ending misplaced_as
ending_misplaced Open p a e = refl
ending_misplaced Close p a e = refl
ending_misplaced (Atom w) p a e = refl
ending_misplaced End p a e = absurd (e refl)
ending_misplaced Foreign p a e = refl

pub number_misplaced : (limit : ℕ) (t : Token) (p : ℕ) (f : ℕ → Step) → ((w : Word) → t ≡ Atom w → ⊥) → number limit t p f ≡ stop (misplaced_as t) p
unfolding number misplaced_as
number_misplaced limit Open p f a = refl
number_misplaced limit Close p f a = refl
number_misplaced limit (Atom w) p f a = absurd (a w refl)
number_misplaced limit End p f a = refl
number_misplaced limit Foreign p f a = refl

pub word_misplaced : (t : Token) (p : ℕ) (a b c : Step) → ((w : Word) → t ≡ Atom w → ⊥) → word t p a b c ≡ stop (misplaced_as t) p
unfolding word misplaced_as
word_misplaced Open p a b c n = refl
word_misplaced Close p a b c n = refl
word_misplaced (Atom w) p a b c n = absurd (n w refl)
word_misplaced End p a b c n = refl
word_misplaced Foreign p a b c n = refl

no_word : (w : Word) (p : ℕ) (a b c : Step) → (w ≡ Order → ⊥) → (w ≡ Group → ⊥) → (w ≡ Job → ⊥) → atom_word w p a b c ≡ stop NotAllowed p
unfolding atom_word
no_word Order p a b c o g j = absurd (o refl)
no_word Group p a b c o g j = absurd (g refl)
no_word Job p a b c o g j = absurd (j refl)
no_word (Number n) p a b c o g j = refl
no_word Other p a b c o g j = refl

-- an atom that is none of the three words
pub word_none : (t : Token) (w : Word) (p : ℕ) (a b c : Step) → t ≡ Atom w → (w ≡ Order → ⊥) → (w ≡ Group → ⊥) → (w ≡ Job → ⊥) → word t p a b c ≡ stop (misplaced_as (Atom w)) p
unfolding word misplaced_as
word_none t w p a b c e o g j = ap (λ (u : Token). word u p a b c) e ∙ no_word w p a b c o g j

none_is : (limit : ℕ) (w : Word) (p : ℕ) (f : ℕ → Step) → ((n : ℕ) → w ≡ Number n → ⊥) → atom_number limit w p f ≡ stop NoNumber p
unfolding atom_number
none_is limit Order p f e = refl
none_is limit Group p f e = refl
none_is limit Job p f e = refl
none_is limit (Number n) p f e = absurd (e n refl)
none_is limit Other p f e = refl

pub number_none : (limit : ℕ) (t : Token) (w : Word) (p : ℕ) (f : ℕ → Step) → t ≡ Atom w → ((n : ℕ) → w ≡ Number n → ⊥) → number limit t p f ≡ stop NoNumber p
unfolding number
number_none limit t w p f e n = ap (λ (u : Token). number limit u p f) e ∙ none_is limit w p f n

pub number_atom : (limit : ℕ) (t : Token) (w : Word) (n : ℕ) (p : ℕ) (f : ℕ → Step) → t ≡ Atom w → w ≡ Number n → number limit t p f ≡ pick (leb n limit) (f n) (stop AboveLimit p)
unfolding number atom_number up_to
number_atom limit t w n p f e d = ap (λ (u : Token). number limit u p f) e ∙ ap (λ (v : Word). atom_number limit v p f) d

-- ---- the least due
pub capped_is : (due level : ℕ) (least gs : List ℕ) → length gs ≡ level → Held gs least → capped due level least ≡ least_due due gs
unfolding capped least_due
capped_is due level least [] e h = pick_yes (eqb level 0) _ _ (eq-eqb level 0 (sym e))
capped_is due level least (g ∷ gs) e h =
    let q : level - 1 ≡ length gs = omega arith in
    pick_no (eqb level 0) due (min due (get_or least (level - 1) 0)) (ne_eqb level 0 (λ z. absurd (omega arith)))
    ∙ ap (λ (n : ℕ). min due (get_or least n 0)) q
    ∙ ap (min due) h.0

pub capped_none : (due level : ℕ) (least : List ℕ) → level ≡ 0 → capped due level least ≡ due
unfolding capped
capped_none due level least e = pick_yes (eqb level 0) due _ (eq-eqb level 0 e)

pub capped_round : (due level round : ℕ) (least : List ℕ) → (level ≡ 0 → ⊥) → round ≡ get_or least (level - 1) 0 → capped due level least ≡ min due round
unfolding capped
capped_round due level round least n e = pick_no (eqb level 0) due (min due (get_or least (level - 1) 0)) (ne_eqb level 0 n) ∙ ap (min due) (sym e)

-- ---- steps
pub leave_left : (r : Reading) (gs : List ℕ) → leave r gs ≡ go (left r gs)
unfolding leave left
leave_left r [] = refl
leave_left r (g ∷ gs) = refl

pub empty_is : (xs : List ℕ) (n : ℕ) → length xs ≡ n → is_empty xs ≡ eqb n 0
empty_is [] n e = sym (eq-eqb n 0 (sym e))
empty_is (x ∷ xs) n e = sym (ne_eqb n 0 (λ z. absurd (omega arith)))

-- where no job is half read there are as many works as dues
pub whole_jobs : (r : Reading) (w : Wanted) (n : ℕ) → Sound r → r.wanted ≡ w → half w ≡ 0 → length r.dues ≡ n → length r.works ≡ n
whole_jobs r w n s e h d =
    let q : half r.wanted ≡ half w = ap half e in
    omega (arith, s.pairs)

-- ---- what the state and the lists hold after a turn
front_more : (l xs : List ℕ) (n v : ℕ) → take (length xs) l ≡ xs → length xs ≡ n → n < length l → take (length (xs ++ (v ∷ []))) (set l n v) ≡ xs ++ (v ∷ [])
front_more l xs n v t e h =
    let q : length (xs ++ (v ∷ [])) ≡ suc n = length-append xs (v ∷ []) ∙ add-one (length xs) ∙ ap suc e in
    ap (λ (k : ℕ). take k (set l n v)) q ∙ take-suc-set l n v h ∙ ap (λ (k : ℕ). take k l ++ (v ∷ [])) (sym e) ∙ ap (λ (x : List ℕ). x ++ (v ∷ [])) t

-- an entry beyond those of the groups is none of theirs
held_set : (gs least : List ℕ) (k v : ℕ) → length gs ≤ k → Held gs least → Held gs (set least k v)
held_set [] least k v h held = tt
held_set (g ∷ gs) least k v h held = (get_or-set_other least k (length gs) v 0 (λ e. absurd (omega arith)) ∙ held.0, held_set gs least k v (omega arith) held.1)

module _ (r : Reading) (wanted : Wanted) (boards level jobs : ℕ) (work due least : List ℕ) (h : Shows r wanted boards level jobs work due least) where
  pub holds_want : (w : Wanted) → Shows (acted r (Want w)) w boards level jobs work due least
  unfolding acted
  holds_want w = record { as_wanted = refl; as_boards = h.as_boards; as_level = h.as_level; as_jobs = h.as_jobs; front_works = h.front_works; front_dues = h.front_dues; held = h.held }

  -- what is taken goes by what was wanted
  pub holds_take : (w : Wanted) (n : ℕ) (wanted' : Wanted) (boards' level' jobs' : ℕ) (work' due' least' : List ℕ) → wanted ≡ w → Shows (taken w r n) wanted' boards' level' jobs' work' due' least' → Shows (acted r (Take n)) wanted' boards' level' jobs' work' due' least'
  unfolding acted
  holds_take w n wanted' boards' level' jobs' work' due' least' e k = subst (λ (v : Wanted). Shows (taken v r n) wanted' boards' level' jobs' work' due' least') (sym (h.as_wanted ∙ e)) k

  holds_boards : (n : ℕ) → Shows (taken Boards r n) ItemOrClose n level jobs work due least
  unfolding taken
  holds_boards n = record { as_wanted = refl; as_boards = refl; as_level = h.as_level; as_jobs = h.as_jobs; front_works = h.front_works; front_dues = h.front_dues; held = h.held }

  holds_group : (n v : ℕ) → v ≡ capped n level least → level < length least → Shows (taken GroupDue r n) ItemOrClose boards (level + 1) jobs work due (set least level v)
  unfolding taken
  holds_group n v e k = record {
    as_wanted = refl;
    as_boards = h.as_boards;
    as_level = omega (arith, h.as_level);
    as_jobs = h.as_jobs;
    front_works = h.front_works;
    front_dues = h.front_dues;
    held = (ap (λ (i : ℕ). get_or (set least level v) i 0) h.as_level ∙ get_or-set_same least level v 0 k ∙ e ∙ capped_is n level least r.groups h.as_level h.held, held_set r.groups least level v (omega (arith, h.as_level)) h.held);
  }

  holds_work : (n : ℕ) → length r.works ≡ jobs → jobs < length work → Shows (taken JobWork r n) JobDue boards level jobs (set work jobs n) due least
  unfolding taken
  holds_work n e k = record { as_wanted = refl; as_boards = h.as_boards; as_level = h.as_level; as_jobs = h.as_jobs; front_works = front_more work r.works jobs n h.front_works e k; front_dues = h.front_dues; held = h.held }

  holds_due : (n v : ℕ) → v ≡ capped n level least → jobs < length due → Shows (taken JobDue r n) JobClose boards level (jobs + 1) work (set due jobs v) least
  unfolding taken
  holds_due n v e k =
      let q : v ≡ least_due n r.groups = e ∙ capped_is n level least r.groups h.as_level h.held in
      record {
        as_wanted = refl;
        as_boards = h.as_boards;
        as_level = h.as_level;
        as_jobs = length-append r.dues (least_due n r.groups ∷ []) ∙ ap (λ (i : ℕ). i + 1) h.as_jobs;
        front_works = h.front_works;
        front_dues = ap (λ (x : ℕ). take (length (r.dues ++ (least_due n r.groups ∷ []))) (set due jobs x)) q ∙ front_more due r.dues jobs (least_due n r.groups) h.front_dues h.as_jobs k;
        held = h.held;
      }

  pub holds_left_order : (gs : List ℕ) → length gs ≡ level → level ≡ 0 → Shows (left r gs) Finish boards level jobs work due least
  unfolding left
  holds_left_order [] e z = record { as_wanted = refl; as_boards = h.as_boards; as_level = e; as_jobs = h.as_jobs; front_works = h.front_works; front_dues = h.front_dues; held = tt }
  holds_left_order (g ∷ gs) e z = absurd (omega arith)

  pub holds_left_group : (gs : List ℕ) → length gs ≡ level → Held gs least → (level ≡ 0 → ⊥) → Shows (left r gs) ItemOrClose boards (level - 1) jobs work due least
  unfolding left
  holds_left_group [] e k n = absurd (n (sym e))
  holds_left_group (g ∷ gs) e k n = record { as_wanted = refl; as_boards = h.as_boards; as_level = omega arith; as_jobs = h.as_jobs; front_works = h.front_works; front_dues = h.front_dues; held = k.1 }

  pub took_boards : (n : ℕ) → wanted ≡ Boards → Shows (acted r (Take n)) ItemOrClose n level jobs work due least
  took_boards n e = holds_take Boards n _ _ _ _ work due least e (holds_boards n)

  pub took_group : (n v : ℕ) (least' : List ℕ) → Sound r → 32 ≤ length least → wanted ≡ GroupDue → v ≡ capped n level least → least' ≡ set least level v → Shows (acted r (Take n)) ItemOrClose boards (level + 1) jobs work due least'
  unfolding deepest
  took_group n v least' sound long e c q =
      let w : length r.groups ≤ 31 = subst (λ (x : Wanted). length r.groups ≤ deepest x) (h.as_wanted ∙ e) sound.levels in
      subst (λ (l : List ℕ). Shows (acted r (Take n)) ItemOrClose boards (level + 1) jobs work due l) (sym q) (holds_take GroupDue n _ _ _ _ work due _ e (holds_group n v c (omega (arith, h.as_level))))

  pub took_work : (n : ℕ) (work' : List ℕ) → Sound r → most_jobs ≤ length work → wanted ≡ JobWork → work' ≡ set work jobs n → Shows (acted r (Take n)) JobDue boards level jobs work' due least
  unfolding fullest half
  took_work n work' sound long e q =
      let w : length r.works ≤ 999 = subst (λ (x : Wanted). length r.works ≤ fullest x) (h.as_wanted ∙ e) sound.jobs in
      let m : length r.works ≡ jobs = whole_jobs r JobWork jobs sound (h.as_wanted ∙ e) refl h.as_jobs in
      subst (λ (l : List ℕ). Shows (acted r (Take n)) JobDue boards level jobs l due least) (sym q) (holds_take JobWork n _ _ _ _ _ due least e (holds_work n m (omega arith)))

  pub took_due : (n v : ℕ) (due' : List ℕ) → Sound r → most_jobs ≤ length due → wanted ≡ JobDue → v ≡ capped n level least → due' ≡ set due jobs v → Shows (acted r (Take n)) JobClose boards level (jobs + 1) work due' least
  unfolding fullest half
  took_due n v due' sound long e c q =
      let w : length r.works ≤ 1000 = subst (λ (x : Wanted). length r.works ≤ fullest x) (h.as_wanted ∙ e) sound.jobs in
      let m : length r.works ≡ length r.dues + 1 = subst (λ (x : Wanted). length r.works ≡ length r.dues + half x) (h.as_wanted ∙ e) sound.pairs in
      subst (λ (l : List ℕ). Shows (acted r (Take n)) JobClose boards level (jobs + 1) work l least) (sym q) (holds_take JobDue n _ _ _ _ work _ least e (holds_due n v c (omega (arith, h.as_jobs))))

  -- where no number is wanted
  pub took_none : (n : ℕ) → ((x : Reading) (m : ℕ) → taken wanted x m ≡ x) → Shows (acted r (Take n)) wanted boards level jobs work due least
  took_none n e = holds_take wanted n wanted boards level jobs work due least refl (subst (λ (x : Reading). Shows x wanted boards level jobs work due least) (sym (e r n)) h)
