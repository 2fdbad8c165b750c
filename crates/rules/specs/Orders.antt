-- The order reader: the grammar token by token, the first fault decides.
use Rattle.std.specs.Prelude.{◌||◌, List, [], ◌∷◌, ◌++◌, ℕ, ◌-◌, min, length, leb, ltb}
use Rattle.rules.specs.declared.Word.{Word}
use Rattle.rules.specs.declared.Word.TheVariants.{Order, Group, Job, Number, Other}
use Rattle.rules.specs.declared.Token.{Token}
use Rattle.rules.specs.declared.Token.TheVariants.{Open, Close, Atom, End, Foreign}
use Rattle.rules.specs.declared.Wanted.{Wanted}
use Rattle.rules.specs.declared.Wanted.TheVariants.{OrderOpen, OrderWord, Boards, ItemOrClose, ItemWord, GroupDue, JobWork, JobDue, JobClose, Finish}
use Rattle.rules.specs.declared.Refusal.{Refusal}
use Rattle.rules.specs.declared.Refusal.TheVariants.{ForeignByte, NotAllowed, Unclosed, NoNumber, AboveLimit, TooDeep, TooManyJobs, NoJob, ShortBuffer, LongFile}
use Rattle.rules.specs.declared.OrderRead.{OrderRead}
use Rattle.rules.specs.Basics.{pick, is_empty, zeros, most_boards, most_minutes, most_jobs, most_levels, most_bytes}
use Rattle.rules.specs.Refusals.{number_of}
use Rattle.rules.specs.Tokens.{Placed, tokens}

-- Where the reader stands: what the grammar wants next, the boards, the dues of the groups round here, the innermost
-- first, and the works and dues of the jobs so far.
pub record Reading : Type 0 where
  pub wanted : Wanted
  pub boards : ℕ
  pub groups : List ℕ
  pub works : List ℕ
  pub dues : List ℕ

-- What one token leads to: on, a refusal with its place, or the whole order read.
pub data Step : Type 0 where
  go : Reading → Step
  stop : Refusal → ℕ → Step
  done : Step

-- "A job's due minute is the least of its own and those of all groups round it"
unfoldable pub least_due : ℕ → List ℕ → ℕ
least_due due [] = due
least_due due (group ∷ groups) = min due (least_due group groups)

-- 5, "a number above its limit"
unfoldable pub up_to : ℕ → ℕ → ℕ → Step → Step
up_to limit n p next = pick (leb n limit) next (stop AboveLimit p)

-- Where a number is wanted: 4 for "an atom that is none", 3 at the end; "A bracket where a number or word is wanted is 2".
unfoldable pub atom_number : ℕ → Word → ℕ → (ℕ → Step) → Step
atom_number limit w p next =
    elim w [ Number n ↦ up_to limit n p (next n) | Order ↦ stop NoNumber p | Group ↦ stop NoNumber p | Job ↦ stop NoNumber p | Other ↦ stop NoNumber p ]

unfoldable pub number : ℕ → Token → ℕ → (ℕ → Step) → Step
number limit t p next =
    elim t [ Atom w ↦ atom_number limit w p next | Open ↦ stop NotAllowed p | Close ↦ stop NotAllowed p | End ↦ stop Unclosed p | Foreign ↦ stop ForeignByte p ]

-- Where a word is wanted: what `order`, `group` and `job` lead to.
unfoldable pub atom_word : Word → ℕ → Step → Step → Step → Step
atom_word w p on_order on_group on_job =
    elim w [ Order ↦ on_order | Group ↦ on_group | Job ↦ on_job | Number n ↦ stop NotAllowed p | Other ↦ stop NotAllowed p ]

unfoldable pub word : Token → ℕ → Step → Step → Step → Step
word t p on_order on_group on_job =
    elim t [ Atom w ↦ atom_word w p on_order on_group on_job | Open ↦ stop NotAllowed p | Close ↦ stop NotAllowed p | End ↦ stop Unclosed p | Foreign ↦ stop ForeignByte p ]

-- Where a bracket is wanted: what an opening one and a closing one lead to.
unfoldable pub bracket : Token → ℕ → Step → Step → Step
bracket t p on_open on_close =
    elim t [ Open ↦ on_open | Close ↦ on_close | Atom w ↦ stop NotAllowed p | End ↦ stop Unclosed p | Foreign ↦ stop ForeignByte p ]

-- After the order's end: "a token the grammar doesn't allow here, also after the order's end"; "8 last".
unfoldable pub ending : Token → ℕ → Step → Step
ending t p on_end =
    elim t [ End ↦ on_end | Open ↦ stop NotAllowed p | Close ↦ stop NotAllowed p | Atom w ↦ stop NotAllowed p | Foreign ↦ stop ForeignByte p ]

-- `)` leaves the innermost group, or the order.
unfoldable pub leave : Reading → List ℕ → Step
leave r [] = go (record { wanted = Finish; boards = r.boards; groups = []; works = r.works; dues = r.dues })
leave r (g ∷ gs) = go (record { wanted = ItemOrClose; boards = r.boards; groups = gs; works = r.works; dues = r.dues })

unfoldable pub want : Reading → Wanted → Step
want r w = go (record { wanted = w; boards = r.boards; groups = r.groups; works = r.works; dues = r.dues })

-- An order is `(`, `order`, number of boards, items, `)`, then the end. A group is `(`, `group`, due, items, `)`.
-- A job is `(`, `job`, work, due, `)`.
unfoldable pub step_at : Wanted → Reading → Token → ℕ → Step
step_at OrderOpen r t p = bracket t p (want r OrderWord) (stop NotAllowed p)
step_at OrderWord r t p = word t p (want r Boards) (stop NotAllowed p) (stop NotAllowed p)
step_at Boards r t p = number most_boards t p (λ n. go (record { wanted = ItemOrClose; boards = n; groups = r.groups; works = r.works; dues = r.dues }))
step_at ItemOrClose r t p = bracket t p (want r ItemWord) (leave r r.groups)
step_at ItemWord r t p =
    word t p (stop NotAllowed p)
    (pick (ltb (length r.groups) most_levels) (want r GroupDue) (stop TooDeep p))
    (pick (ltb (length r.works) most_jobs) (want r JobWork) (stop TooManyJobs p))
step_at GroupDue r t p = number most_minutes t p (λ n. go (record { wanted = ItemOrClose; boards = r.boards; groups = n ∷ r.groups; works = r.works; dues = r.dues }))
step_at JobWork r t p = number most_minutes t p (λ n. go (record { wanted = JobDue; boards = r.boards; groups = r.groups; works = r.works ++ (n ∷ []); dues = r.dues }))
step_at JobDue r t p = number most_minutes t p (λ n. go (record { wanted = JobClose; boards = r.boards; groups = r.groups; works = r.works; dues = r.dues ++ (least_due n r.groups ∷ []) }))
step_at JobClose r t p = bracket t p (stop NotAllowed p) (want r ItemOrClose)
step_at Finish r t p = ending t p (pick (is_empty r.works) (stop NoJob p) done)

-- What the tokens say: a refusal with its place, or an order with its boards, works and dues.
pub data Outcome : Type 0 where
  refused : Refusal → ℕ → Outcome
  accepted : ℕ → List ℕ → List ℕ → Outcome

unfoldable pub after : Reading → Step → (Reading → Outcome) → Outcome
after r (go next) more = more next
after r (stop refusal place) more = refused refusal place
after r done more = accepted r.boards r.works r.dues

-- A file's tokens end with the end or a foreign byte, at each of which the reading ends: the first line is never reached.
unfoldable pub reads : Reading → List Placed → Outcome
reads r [] = refused Unclosed 0
reads r (t ∷ ts) = after r (step_at r.wanted r t.token t.place) (λ next. reads next ts)

unfoldable pub start : Reading
start = record { wanted = OrderOpen; boards = 0; groups = []; works = []; dues = [] }

unfoldable pub order_of : List ℕ → Outcome
order_of file = reads start (tokens file)

-- The reader's whole answer: its numbers and the later contents of both buffers.
pub record ReadAnswer : Type 0 where
  pub said : OrderRead
  pub work : List ℕ
  pub due : List ℕ

-- "Refused: boards and count 0"
unfoldable pub refused_read : Refusal → ℕ → List ℕ → List ℕ → ReadAnswer
refused_read refusal place work due = record { said = record { refusal = number_of refusal; place = place; boards = 0; jobs = 0 }; work = work; due = due }

-- "Accepted: boards and job count returned, the lists at the front of both buffers, zeros to their ends"; "both buffers all zero"
unfoldable pub after_reading : Outcome → List ℕ → List ℕ → ReadAnswer
after_reading (refused refusal place) work due = refused_read refusal place (zeros (length work)) (zeros (length due))
after_reading (accepted boards works dues) work due = record {
  said = record { refusal = 0; place = 0; boards = boards; jobs = length works };
  work = works ++ zeros (length work - length works);
  due = dues ++ zeros (length due - length dues);
}

-- "Order: 10 (either of the two buffers, work and due, holds under 1,000 numbers), 11, then token by token"
unfoldable pub read_answer : List ℕ → List ℕ → List ℕ → ReadAnswer
read_answer file work due =
    pick (ltb (length work) most_jobs || ltb (length due) most_jobs) (refused_read ShortBuffer 0 work due)
    (pick (ltb most_bytes (length file)) (refused_read LongFile 0 work due)
    (after_reading (order_of file) work due))
