-- Laws of the definition's steps: what one token leads to, where the reading ends, and what the loop keeps.
use Rattle.std.specs.Prelude.{◌≡◌, refl, Result, Ok, Err, Bool, true, false, ◌⊎◌, List, [], ◌∷◌, ◌++◌, ℕ, suc, ◌+◌, ◌≤◌, ◌<◌, length, take, leb, ltb, eqb}
use Rattle.std.proofs.Common.{sym, ap, subst, ◌∙◌, true≢false, inl, inr, arith, length-append, lit≤, ltb-true}
use Rattle.std.proofs.lemmas.Bool.{false≢true}
use Rattle.rules.specs.declared.Word.{Word}
use Rattle.rules.specs.declared.Word.TheVariants.{Order, Group, Job, Number, Other}
use Rattle.rules.specs.declared.Token.{Token}
use Rattle.rules.specs.declared.Token.TheVariants.{Open, Close, Atom, End, Foreign}
use Rattle.rules.specs.declared.Wanted.{Wanted}
use Rattle.rules.specs.declared.Wanted.TheVariants.{OrderOpen, OrderWord, Boards, ItemOrClose, ItemWord, GroupDue, JobWork, JobDue, JobClose, Finish}
use Rattle.rules.specs.declared.Refusal.{Refusal}
use Rattle.rules.specs.declared.Refusal.TheVariants.{AboveLimit}
use Rattle.rules.specs.Basics.{pick, is_empty, most_boards, most_minutes, most_jobs, most_levels}
use Rattle.rules.specs.Tokens.{Placed, tokens, tokens_from, closing, between, is_letter_or_digit, is_blank}
use Rattle.rules.specs.Orders.{Reading, Step, go, stop, done, Outcome, accepted, least_due, up_to, atom_number, number, atom_word, word, bracket, ending, leave, want, step_at, after, reads, start, order_of}
use Rattle.laws.specs.Tests.{decided}
use Rattle.lexer.specs.Scan.{tokens_at, is_last, behind, NextToken}
use Rattle.lexer.specs.declared.Seen.{Seen}
use Rattle.grammar.specs.declared.Stop.{Stop}
use Rattle.grammar.specs.declared.Cursor.{Cursor}
use Rattle.grammar.specs.declared.Turn.{Turn}
use Rattle.grammar.specs.declared.Turn.TheVariants.{Want, Take, Leave, Done}
use Rattle.grammar.specs.Turns.{acted, turned, meant, Goes, deepest, fullest, half, Sound, Decides, Long, Lent, LentAll, Acts, Changes, Untouched, Bounded, Finished, Stands}

-- ---- a fact of a step, from the same fact of the steps that it chooses from
pub pick_all : {A : Type 0} (P : A → Type 0) (b : Bool) (x y : A) → (b ≡ true → P x) → (b ≡ false → P y) → P (pick b x y)
pick_all P true x y yes' no' = yes' refl
pick_all P false x y yes' no' = no' refl

module _ (P : Step → Type 0) (p : ℕ) (stops : (q : Refusal) → P (stop q p)) where
  pub bracket_all : (t : Token) (a b : Step) → P a → P b → P (bracket t p a b)
  unfolding bracket
  bracket_all Open a b x y = x
  bracket_all Close a b x y = y
  bracket_all (Atom w) a b x y = stops _
  bracket_all End a b x y = stops _
  bracket_all Foreign a b x y = stops _

  atom_word_all : (w : Word) (a b c : Step) → P a → P b → P c → P (atom_word w p a b c)
  unfolding atom_word
  atom_word_all Order a b c x y z = x
  atom_word_all Group a b c x y z = y
  atom_word_all Job a b c x y z = z
  atom_word_all (Number n) a b c x y z = stops _
  atom_word_all Other a b c x y z = stops _

  pub word_all : (t : Token) (a b c : Step) → P a → P b → P c → P (word t p a b c)
  unfolding word
  word_all Open a b c x y z = stops _
  word_all Close a b c x y z = stops _
  word_all (Atom w) a b c x y z = atom_word_all w a b c x y z
  word_all End a b c x y z = stops _
  word_all Foreign a b c x y z = stops _

  atom_number_all : (limit : ℕ) (w : Word) (f : ℕ → Step) → ((n : ℕ) → P (f n)) → P (atom_number limit w p f)
  unfolding atom_number up_to
  atom_number_all limit Order f x = stops _
  atom_number_all limit Group f x = stops _
  atom_number_all limit Job f x = stops _
  atom_number_all limit (Number n) f x = pick_all P (leb n limit) (f n) (stop AboveLimit p) (λ e. x n) (λ e. stops _)
  atom_number_all limit Other f x = stops _

  pub number_all : (limit : ℕ) (t : Token) (f : ℕ → Step) → ((n : ℕ) → P (f n)) → P (number limit t p f)
  unfolding number
  number_all limit Open f x = stops _
  number_all limit Close f x = stops _
  number_all limit (Atom w) f x = atom_number_all limit w f x
  number_all limit End f x = stops _
  number_all limit Foreign f x = stops _

  pub ending_all : (t : Token) (a : Step) → P a → P (ending t p a)
  unfolding ending
  ending_all Open a x = stops _
  ending_all Close a x = stops _
  ending_all (Atom w) a x = stops _
  ending_all End a x = x
  ending_all Foreign a x = stops _

  -- the end and a foreign byte stop, but for the end behind the order
  bracket_last : (t : Token) (a b : Step) → is_last t ≡ true → P (bracket t p a b)
  unfolding bracket is_last
  bracket_last Open a b e = absurd (false≢true e)
  bracket_last Close a b e = absurd (false≢true e)
  bracket_last (Atom w) a b e = absurd (false≢true e)
  bracket_last End a b e = stops _
  bracket_last Foreign a b e = stops _

  word_last : (t : Token) (a b c : Step) → is_last t ≡ true → P (word t p a b c)
  unfolding word is_last
  word_last Open a b c e = absurd (false≢true e)
  word_last Close a b c e = absurd (false≢true e)
  word_last (Atom w) a b c e = absurd (false≢true e)
  word_last End a b c e = stops _
  word_last Foreign a b c e = stops _

  number_last : (limit : ℕ) (t : Token) (f : ℕ → Step) → is_last t ≡ true → P (number limit t p f)
  unfolding number is_last
  number_last limit Open f e = absurd (false≢true e)
  number_last limit Close f e = absurd (false≢true e)
  number_last limit (Atom w) f e = absurd (false≢true e)
  number_last limit End f e = stops _
  number_last limit Foreign f e = stops _

-- ---- one step keeps the limits, refuses at the token's place, and ends only where no job is half read
abbrev Follows : Reading → ℕ → Step → Type 0
Follows r p (go next) = Sound next
Follows r p (stop refusal place) = place ≡ p
Follows r p done = half r.wanted ≡ 0

follows_leave : (r : Reading) (p : ℕ) (gs : List ℕ) → length gs ≤ 32 → length r.works ≤ 1000 → length r.works ≡ length r.dues + 0 → Follows r p (leave r gs)
unfolding leave deepest fullest half
follows_leave r p [] l j e = record { levels = omega arith; jobs = j; pairs = e }
follows_leave r p (g ∷ gs) l j e = record { levels = omega arith; jobs = j; pairs = e }

follows_at : (w : Wanted) (r : Reading) (t : Token) (p : ℕ) → half r.wanted ≡ half w → length r.groups ≤ deepest w → length r.works ≤ fullest w → length r.works ≡ length r.dues + half w → Follows r p (step_at w r t p)
unfolding step_at want deepest fullest half
follows_at OrderOpen r t p h l j e = bracket_all (Follows r p) p (λ q. refl) t _ _ (record { levels = l; jobs = j; pairs = e }) refl
follows_at OrderWord r t p h l j e = word_all (Follows r p) p (λ q. refl) t _ _ _ (record { levels = l; jobs = j; pairs = e }) refl refl
follows_at Boards r t p h l j e = number_all (Follows r p) p (λ q. refl) most_boards t _ (λ n. record { levels = l; jobs = j; pairs = e })
follows_at ItemOrClose r t p h l j e = bracket_all (Follows r p) p (λ q. refl) t _ _ (record { levels = l; jobs = j; pairs = e }) (follows_leave r p r.groups l j e)
follows_at ItemWord r t p h l j e =
    word_all (Follows r p) p (λ q. refl) t _ _ _ refl
    (pick_all (Follows r p) (ltb (length r.groups) most_levels) _ _ (λ y. record { levels = omega (arith, ltb-true (length r.groups) 32 y); jobs = j; pairs = e }) (λ n. refl))
    (pick_all (Follows r p) (ltb (length r.works) most_jobs) _ _ (λ y. record { levels = l; jobs = omega (arith, ltb-true (length r.works) 1000 y); pairs = e }) (λ n. refl))
follows_at GroupDue r t p h l j e = number_all (Follows r p) p (λ q. refl) most_minutes t _ (λ n. record { levels = omega arith; jobs = j; pairs = e })
follows_at JobWork r t p h l j e =
    number_all (Follows r p) p (λ q. refl) most_minutes t _
    (λ n. let a : length (r.works ++ (n ∷ [])) ≡ length r.works + 1 = length-append r.works (n ∷ []) in
    record { levels = l; jobs = omega arith; pairs = omega arith })
follows_at JobDue r t p h l j e =
    number_all (Follows r p) p (λ q. refl) most_minutes t _
    (λ n. let a : length (r.dues ++ (least_due n r.groups ∷ [])) ≡ length r.dues + 1 = length-append r.dues (least_due n r.groups ∷ []) in
    record { levels = l; jobs = j; pairs = omega arith })
follows_at JobClose r t p h l j e = bracket_all (Follows r p) p (λ q. refl) t _ _ refl (record { levels = l; jobs = j; pairs = e })
follows_at Finish r t p h l j e = ending_all (Follows r p) p (λ q. refl) t _ (pick_all (Follows r p) (is_empty r.works) _ _ (λ y. refl) (λ n. h))

follows : (r : Reading) (t : Token) (p : ℕ) → Sound r → Follows r p (step_at r.wanted r t p)
follows r t p s = follows_at r.wanted r t p refl s.levels s.jobs s.pairs

-- ---- the end and a foreign byte end the reading
abbrev NoGo : Step → Type 0
NoGo (go next) = ⊥
NoGo (stop refusal place) = Unit {0}
NoGo done = Unit {0}

last_ends : (w : Wanted) (r : Reading) (t : Token) (p : ℕ) → is_last t ≡ true → NoGo (step_at w r t p)
unfolding step_at
last_ends OrderOpen r t p e = bracket_last NoGo p (λ q. tt) t _ _ e
last_ends OrderWord r t p e = word_last NoGo p (λ q. tt) t _ _ _ e
last_ends Boards r t p e = number_last NoGo p (λ q. tt) most_boards t _ e
last_ends ItemOrClose r t p e = bracket_last NoGo p (λ q. tt) t _ _ e
last_ends ItemWord r t p e = word_last NoGo p (λ q. tt) t _ _ _ e
last_ends GroupDue r t p e = number_last NoGo p (λ q. tt) most_minutes t _ e
last_ends JobWork r t p e = number_last NoGo p (λ q. tt) most_minutes t _ e
last_ends JobDue r t p e = number_last NoGo p (λ q. tt) most_minutes t _ e
last_ends JobClose r t p e = bracket_last NoGo p (λ q. tt) t _ _ e
last_ends Finish r t p e = ending_all NoGo p (λ q. tt) t _ (pick_all NoGo (is_empty r.works) _ _ (λ y. tt) (λ n. tt))

pub goes_on : (r : Reading) (t : Token) (p : ℕ) (next : Reading) → step_at r.wanted r t p ≡ go next → is_last t ≡ false
goes_on r t p next e = elim (decided (is_last t)) [ inl y ↦ absurd (subst NoGo e (last_ends r.wanted r t p y)) | inr n ↦ n ]

-- ---- whatever stood behind a file's tokens would not be read, so the definition's line for an empty list is never reached
after_last : (r : Reading) (st : Step) (f g : Reading → Outcome) → NoGo st → after r st f ≡ after r st g
unfolding after
after_last r (go next) f g n = absurd n
after_last r (stop refusal place) f g n = refl
after_last r done f g n = refl

after_same : (r : Reading) (st : Step) (f g : Reading → Outcome) → ((x : Reading) → f x ≡ g x) → after r st f ≡ after r st g
unfolding after
after_same r (go next) f g e = e next
after_same r (stop refusal place) f g e = refl
after_same r done f g e = refl

abbrev Closed : List Placed → Type 0
Closed [] = ⊥
Closed (t ∷ ts) = (is_last t.token ≡ true) ⊎ Closed ts

reads_closed : (ts more : List Placed) (r : Reading) → Closed ts → reads r (ts ++ more) ≡ reads r ts
unfolding reads
reads_closed [] more r c = absurd c
reads_closed (t ∷ ts) more r (inl e) = after_last r _ _ _ (last_ends r.wanted r t.token t.place e)
reads_closed (t ∷ ts) more r (inr c) = after_same r _ _ _ (λ next. reads_closed ts more next c)

closing_closed : (p : ℕ) (w : List ℕ) (rest : List Placed) → Closed rest → Closed (closing p w rest)
unfolding closing
closing_closed p [] rest c = c
closing_closed p (b ∷ w) rest c = inr c

between_closed : (at b : ℕ) (rest : List Placed) → Closed rest → Closed (between at b rest)
unfolding between is_last
between_closed at b rest c =
    pick_all Closed (is_blank b) _ _ (λ e. c)
    (λ n. pick_all Closed (eqb b 40) _ _ (λ e. inr c)
    (λ m. pick_all Closed (eqb b 41) _ _ (λ e. inr c) (λ k. inl refl)))

tokens_closed : (p : ℕ) (w : List ℕ) (at : ℕ) (bs : List ℕ) → Closed (tokens_from p w at bs)
unfolding tokens_from is_last
tokens_closed p w at [] = closing_closed p w _ (inl refl)
tokens_closed p w at (b ∷ bs) =
    pick_all Closed (is_letter_or_digit b) _ _ (λ e. tokens_closed (pick (is_empty w) at p) (w ++ (b ∷ [])) (suc at) bs)
    (λ n. closing_closed p w _ (between_closed at b _ (tokens_closed 0 [] (suc at) bs)))

pub reads_no_more : (file : List ℕ) (more : List Placed) (r : Reading) → reads r (tokens file ++ more) ≡ reads r (tokens file)
unfolding tokens
reads_no_more file more r = reads_closed (tokens_from 0 [] 0 file) more r (tokens_closed 0 [] 0 file)

-- ---- the loop
behind_on : (t : Token) (more : List Placed) → is_last t ≡ false → behind t more ≡ more
unfolding behind is_last
behind_on Open more e = refl
behind_on Close more e = refl
behind_on (Atom w) more e = refl
behind_on End more e = absurd (true≢false e)
behind_on Foreign more e = absurd (true≢false e)

pub deepest_most : (w : Wanted) → deepest w ≤ 32
unfolding deepest
deepest_most OrderOpen = lit≤ tt
deepest_most OrderWord = lit≤ tt
deepest_most Boards = lit≤ tt
deepest_most ItemOrClose = lit≤ tt
deepest_most ItemWord = lit≤ tt
deepest_most GroupDue = lit≤ tt
deepest_most JobWork = lit≤ tt
deepest_most JobDue = lit≤ tt
deepest_most JobClose = lit≤ tt
deepest_most Finish = lit≤ tt

pub fullest_most : (w : Wanted) → fullest w ≤ 1000
unfolding fullest
fullest_most OrderOpen = lit≤ tt
fullest_most OrderWord = lit≤ tt
fullest_most Boards = lit≤ tt
fullest_most ItemOrClose = lit≤ tt
fullest_most ItemWord = lit≤ tt
fullest_most GroupDue = lit≤ tt
fullest_most JobWork = lit≤ tt
fullest_most JobDue = lit≤ tt
fullest_most JobClose = lit≤ tt
fullest_most Finish = lit≤ tt

-- what is read from a reading on, by what its first token leads to
reads_first : (file : List ℕ) (at : ℕ) (seen : Seen) (r : Reading) → NextToken file at seen → reads r (tokens_at file at) ≡ after r (step_at r.wanted r seen.token seen.place) (λ next. reads next (behind seen.token (tokens_at file seen.next)))
unfolding reads
reads_first file at seen r n = ap (reads r) n.tells

goes_turned : (r : Reading) (t : Turn) → Goes t → turned r t ≡ go (acted r t)
unfolding turned
goes_turned r (Want w) g = refl
goes_turned r (Take n) g = refl
goes_turned r Leave g = refl
goes_turned r Done g = absurd g

-- the start
pub stands_start : (s : Cursor) → s.at ≡ 0 → s.state.wanted ≡ OrderOpen → s.state.boards ≡ 0 → s.state.level ≡ 0 → s.state.jobs ≡ 0 → Stands s
unfolding order_of tokens tokens_at start deepest fullest half
stands_start s at wanted boards level jobs = record {
  reading = start;
  sound = record { levels = lit≤ tt; jobs = lit≤ tt; pairs = refl };
  holds = record { as_wanted = sym wanted; as_boards = sym boards; as_level = sym level; as_jobs = sym jobs; front_works = refl; front_dues = refl; held = tt };
  same = ap (λ (n : ℕ). reads start (tokens_at s.file.now n)) at;
  inside = omega (arith, at);
}

-- a list as long as before is long enough
pub long_lent : (s s' : Cursor) → Long s → Lent s s' → Long s'
long_lent s s' l t = record { long_work = omega (arith, l.long_work, t.length_work); long_due = omega (arith, l.long_due, t.length_due); long_least = omega (arith, l.long_least, t.length_least) }

pub lent_on : (s s' s'' : Cursor) → Lent s s' → Lent s' s'' → Lent s s''
lent_on s s' s'' a b = record {
  same_file = b.same_file ∙ a.same_file;
  same_work = b.same_work ∙ a.same_work;
  same_due = b.same_due ∙ a.same_due;
  length_work = b.length_work ∙ a.length_work;
  length_due = b.length_due ∙ a.length_due;
  length_least = b.length_least ∙ a.length_least;
}

pub lent_all_on : (s s' s'' : Cursor) → LentAll s s' → LentAll s' s'' → LentAll s s''
lent_all_on s s' s'' a b = record { lent = lent_on s s' s'' a.lent b.lent; same_least = b.same_least ∙ a.same_least }

pub changes_acts : (s : Cursor) (t : Turn) (s' : Cursor) → Changes s.state t s'.state → Untouched s s' → Acts s t s'
changes_acts s t s' c u = λ r sound long h. rw (u.as_work, u.as_due, u.as_least) (c r s.work.now s.due.now s.least.now h)

module _ (s : Cursor) (c : Stands s) where
  pub stands_bounded : Bounded s.state
  stands_bounded =
      let d : deepest c.reading.wanted ≤ 32 = deepest_most c.reading.wanted in
      let f : fullest c.reading.wanted ≤ 1000 = fullest_most c.reading.wanted in
      record { few_levels = omega (arith, c.sound.levels, c.holds.as_level); few_jobs = omega (arith, c.sound.jobs, c.sound.pairs, c.holds.as_jobs) }

  module _ (seen : Seen) (n : NextToken s.file.now s.at seen) (decided : Result Turn Stop) (d : Decides s.state seen.token seen.place decided) where
    -- the definition's step at the token seen
    step_is : step_at c.reading.wanted c.reading seen.token seen.place ≡ meant c.reading decided
    step_is = d c.reading c.sound c.holds.as_wanted c.holds.as_level c.holds.as_jobs

    outcome_is : (st : Step) → meant c.reading decided ≡ st → after c.reading st (λ next. reads next (behind seen.token (tokens_at s.file.now seen.next))) ≡ order_of s.file.now
    outcome_is st e =
        ap (λ (x : Step). after c.reading x (λ next. reads next (behind seen.token (tokens_at s.file.now seen.next)))) (sym (step_is ∙ e))
        ∙ sym (reads_first s.file.now s.at seen c.reading n)
        ∙ c.same

    follows_is : (st : Step) → meant c.reading decided ≡ st → Follows c.reading seen.place st
    follows_is st e = subst (Follows c.reading seen.place) (step_is ∙ e) (follows c.reading seen.token seen.place c.sound)

    -- a refusal's place is the token's
    pub stop_place : (halt : Stop) → decided ≡ Err halt → halt.place ≡ seen.place
    unfolding meant
    stop_place halt e = follows_is (stop halt.refusal halt.place) (ap (meant c.reading) e)

    pub stands_stop : (halt : Stop) (work' due' : List ℕ) → decided ≡ Err halt → Finished s.file.now (Err (record { refusal = halt.refusal; place = halt.place })) work' due'
    unfolding meant after
    stands_stop halt work' due' e =
        (sym (outcome_is (stop halt.refusal halt.place) (ap (meant c.reading) e)), omega (arith, stop_place halt e, (n.inside c.inside).0))

    pub stands_done : decided ≡ Ok Done → Finished s.file.now (Ok (record { boards = s.state.boards; jobs = s.state.jobs })) s.work.now s.due.now
    unfolding turned meant after
    stands_done e =
        let w : half c.reading.wanted ≡ 0 = follows_is done (ap (meant c.reading) e) in
        let m : length c.reading.works ≡ s.state.jobs = omega (arith, w, c.sound.pairs, c.holds.as_jobs) in (
          sym (outcome_is done (ap (meant c.reading) e))
              ∙ ap (λ (b : ℕ). accepted b c.reading.works c.reading.dues) c.holds.as_boards
              ∙ ap (λ (x : List ℕ). accepted s.state.boards x c.reading.dues) (sym c.holds.front_works ∙ ap (λ (k : ℕ). take k s.work.now) m)
              ∙ ap (λ (x : List ℕ). accepted s.state.boards (take s.state.jobs s.work.now) x) (sym c.holds.front_dues ∙ ap (λ (k : ℕ). take k s.due.now) c.holds.as_jobs),
          stands_bounded.few_jobs,
        )

    module _ (act : Turn) (e : decided ≡ Ok act) (g : Goes act) where
      on_is : meant c.reading decided ≡ go (acted c.reading act)
      unfolding meant
      on_is = ap (meant c.reading) e ∙ goes_turned c.reading act g

      pub goes : step_at c.reading.wanted c.reading seen.token seen.place ≡ go (acted c.reading act)
      goes = step_is ∙ on_is

      pub moves_on : s.at < seen.next
      moves_on = n.moves (goes_on c.reading seen.token seen.place (acted c.reading act) goes)

      pub stands_on : (s' s'' : Cursor) → Long s → Acts s act s' → Lent s s' → s'' ≡ record s' { at = seen.next } → Stands s''
      unfolding after
      stands_on s' s'' long a lent q = subst Stands (sym q) (record {
        reading = acted c.reading act;
        sound = follows_is (go (acted c.reading act)) on_is;
        holds = a c.reading c.sound long c.holds;
        same =
            ap (λ (f : List ℕ). reads (acted c.reading act) (tokens_at f seen.next)) lent.same_file
            ∙ ap (reads (acted c.reading act)) (sym (behind_on seen.token (tokens_at s.file.now seen.next) (goes_on c.reading seen.token seen.place (acted c.reading act) goes)))
            ∙ outcome_is (go (acted c.reading act)) on_is
            ∙ ap order_of (sym lent.same_file);
        inside = omega (arith, (n.inside c.inside).1, ap length lent.same_file);
      })
