-- What the reader's state and turns mean in the definition's terms.
use Rattle.std.specs.Prelude.{◌≡◌, Result, Ok, Err, List, [], ◌∷◌, ◌++◌, ℕ, ◌+◌, ◌-◌, ◌≤◌, min, length, take, get_or, eqb}
use Rattle.rules.specs.declared.Token.{Token}
use Rattle.rules.specs.declared.Token.TheVariants.{Open, Close, Atom, End, Foreign}
use Rattle.rules.specs.declared.Wanted.{Wanted}
use Rattle.rules.specs.declared.Wanted.TheVariants.{OrderOpen, OrderWord, Boards, ItemOrClose, ItemWord, GroupDue, JobWork, JobDue, JobClose, Finish}
use Rattle.rules.specs.declared.Refusal.{Refusal}
use Rattle.rules.specs.declared.OrderRead.{OrderRead}
use Rattle.rules.specs.declared.Refusal.TheVariants.{ForeignByte, NotAllowed, Unclosed}
use Rattle.refusals.specs.declared.Fault.{Fault}
use Rattle.rules.specs.Refusals.{number_of}
use Rattle.rules.specs.Basics.{pick, most_jobs, most_levels}
use Rattle.rules.specs.Orders.{Reading, Step, go, stop, done, Outcome, refused, accepted, least_due, step_at, reads, order_of, ReadAnswer}
use Rattle.lexer.specs.Scan.{tokens_at}
use Rattle.grammar.specs.declared.State.{State}
use Rattle.grammar.specs.declared.Cursor.{Cursor}
use Rattle.grammar.specs.declared.Turn.{Turn}
use Rattle.grammar.specs.declared.Turn.TheVariants.{Want, Take, Leave, Done}
use Rattle.grammar.specs.declared.Stop.{Stop}
use Rattle.grammar.specs.declared.Order.{Order}

unfoldable pub misplaced_as : Token → Refusal
misplaced_as Open = NotAllowed
misplaced_as Close = NotAllowed
misplaced_as (Atom w) = NotAllowed
misplaced_as End = Unclosed
misplaced_as Foreign = ForeignByte

-- ---- what a turn makes of a reading
-- a number, taken for what was wanted; elsewhere no number is taken
unfoldable pub taken : Wanted → Reading → ℕ → Reading
taken OrderOpen r n = r
taken OrderWord r n = r
taken Boards r n = record { wanted = ItemOrClose; boards = n; groups = r.groups; works = r.works; dues = r.dues }
taken ItemOrClose r n = r
taken ItemWord r n = r
taken GroupDue r n = record { wanted = ItemOrClose; boards = r.boards; groups = n ∷ r.groups; works = r.works; dues = r.dues }
taken JobWork r n = record { wanted = JobDue; boards = r.boards; groups = r.groups; works = r.works ++ (n ∷ []); dues = r.dues }
taken JobDue r n = record { wanted = JobClose; boards = r.boards; groups = r.groups; works = r.works; dues = r.dues ++ (least_due n r.groups ∷ []) }
taken JobClose r n = r
taken Finish r n = r

unfoldable pub left : Reading → List ℕ → Reading
left r [] = record { wanted = Finish; boards = r.boards; groups = []; works = r.works; dues = r.dues }
left r (g ∷ gs) = record { wanted = ItemOrClose; boards = r.boards; groups = gs; works = r.works; dues = r.dues }

unfoldable pub acted : Reading → Turn → Reading
acted r (Want w) = record { wanted = w; boards = r.boards; groups = r.groups; works = r.works; dues = r.dues }
acted r (Take n) = taken r.wanted r n
acted r Leave = left r r.groups
acted r Done = r

unfoldable pub turned : Reading → Turn → Step
turned r (Want w) = go (acted r (Want w))
turned r (Take n) = go (acted r (Take n))
turned r Leave = go (acted r Leave)
turned r Done = done

-- what is decided of a token
unfoldable pub meant : Reading → Result Turn Stop → Step
meant r (Ok turn) = turned r turn
meant r (Err halt) = stop halt.refusal halt.place

-- a turn that does not end the reading
abbrev pub Goes : Turn → Type 0
Goes (Want w) = Unit {0}
Goes (Take n) = Unit {0}
Goes Leave = Unit {0}
Goes Done = ⊥

-- ---- what the state and the lists hold of a reading
-- the due that a job or a group gets where `least` has the least due of each group with those round it
unfoldable pub capped : ℕ → ℕ → List ℕ → ℕ
capped due level least = pick (eqb level 0) due (min due (get_or least (level - 1) 0))

abbrev pub Held : List ℕ → List ℕ → Type 0
Held [] least = Unit {0}
Held (g ∷ gs) least = (get_or least (length gs) 0 ≡ least_due g gs) × Held gs least

pub record Shows (r : Reading) (wanted : Wanted) (boards level jobs : ℕ) (work due least : List ℕ) : Type 0 where
  pub as_wanted : r.wanted ≡ wanted
  pub as_boards : r.boards ≡ boards
  pub as_level : length r.groups ≡ level
  pub as_jobs : length r.dues ≡ jobs
  pub front_works : take (length r.works) work ≡ r.works
  pub front_dues : take (length r.dues) due ≡ r.dues
  pub held : Held r.groups least

abbrev pub Holds : Reading → Cursor → Type 0
Holds r s = Shows r s.state.wanted s.state.boards s.state.level s.state.jobs s.work.now s.due.now s.least.now

-- The limits that a reading keeps: where a group's due is wanted there is room for a level, where a job's work is wanted
-- for a job, and a work is read before its due.
unfoldable pub deepest : Wanted → ℕ
deepest OrderOpen = 32
deepest OrderWord = 32
deepest Boards = 32
deepest ItemOrClose = 32
deepest ItemWord = 32
deepest GroupDue = 31
deepest JobWork = 32
deepest JobDue = 32
deepest JobClose = 32
deepest Finish = 32

unfoldable pub fullest : Wanted → ℕ
fullest OrderOpen = 1000
fullest OrderWord = 1000
fullest Boards = 1000
fullest ItemOrClose = 1000
fullest ItemWord = 1000
fullest GroupDue = 1000
fullest JobWork = 999
fullest JobDue = 1000
fullest JobClose = 1000
fullest Finish = 1000

unfoldable pub half : Wanted → ℕ
half OrderOpen = 0
half OrderWord = 0
half Boards = 0
half ItemOrClose = 0
half ItemWord = 0
half GroupDue = 0
half JobWork = 0
half JobDue = 1
half JobClose = 0
half Finish = 0

pub record Sound (r : Reading) : Type 0 where
  pub levels : length r.groups ≤ deepest r.wanted
  pub jobs : length r.works ≤ fullest r.wanted
  pub pairs : length r.works ≡ length r.dues + half r.wanted

-- ---- what the functions say
-- What is decided is the definition's step, for each reading that the state stands for.
abbrev pub Decides : State → Token → ℕ → Result Turn Stop → Type 0
Decides s t p decided = (r : Reading) → Sound r → r.wanted ≡ s.wanted → length r.groups ≡ s.level → length r.dues ≡ s.jobs → step_at r.wanted r t p ≡ meant r decided

-- the lists are long enough
pub record Long (s : Cursor) : Type 0 where
  pub long_work : most_jobs ≤ length s.work.now
  pub long_due : most_jobs ≤ length s.due.now
  pub long_least : most_levels ≤ length s.least.now

-- the same file, the same lists of works and dues, and each list as long as before
pub record Lent (s s' : Cursor) : Type 0 where
  pub same_file : s'.file.now ≡ s.file.now
  pub same_work : s'.work.ghost_name ≡ s.work.ghost_name
  pub same_due : s'.due.ghost_name ≡ s.due.ghost_name
  pub length_work : length s'.work.now ≡ length s.work.now
  pub length_due : length s'.due.now ≡ length s.due.now
  pub length_least : length s'.least.now ≡ length s.least.now

-- and the same list of least dues: each list is the one that was lent
pub record LentAll (s s' : Cursor) : Type 0 where
  pub lent : Lent s s'
  pub same_least : s'.least.ghost_name ≡ s.least.ghost_name

-- State and lists are changed as the turn changes the reading.
abbrev pub Acts : Cursor → Turn → Cursor → Type 0
Acts s t s' = (r : Reading) → Sound r → Long s → Holds r s → Holds (acted r t) s'

-- The state alone is, whatever the lists hold.
abbrev pub Changes : State → Turn → State → Type 0
Changes s t s' =
    (r : Reading) (work due least : List ℕ) → Shows r s.wanted s.boards s.level s.jobs work due least → Shows (acted r t) s'.wanted s'.boards s'.level s'.jobs work due least

-- the place and what the lists hold stay as they were
pub record Untouched (s s' : Cursor) : Type 0 where
  pub same_at : s'.at ≡ s.at
  pub as_work : s'.work.now ≡ s.work.now
  pub as_due : s'.due.now ≡ s.due.now
  pub as_least : s'.least.now ≡ s.least.now

-- How a file is read: the refusal, or the boards and the lists at the front of the buffers.
abbrev pub Finished : List ℕ → Result Order Fault → List ℕ → List ℕ → Type 0
Finished file (Err fault) work due = (order_of file ≡ refused fault.refusal fault.place) × (fault.place ≤ length file)
Finished file (Ok order) work due = (order_of file ≡ accepted order.boards (take order.jobs work) (take order.jobs due)) × (order.jobs ≤ most_jobs)

-- no count is so large that one more does not fit
pub record Bounded (s : State) : Type 0 where
  pub few_levels : s.level ≤ most_levels
  pub few_jobs : s.jobs ≤ most_jobs

-- Where the reader stands before the token at `at`: the cursor holds a reading, and what is still to be read from it is what is
-- to be read from the start.
pub record Stands (s : Cursor) : Type 0 where
  pub reading : Reading
  pub sound : Sound reading
  pub holds : Holds reading s
  pub same : reads reading (tokens_at s.file.now s.at) ≡ order_of s.file.now
  pub inside : s.at ≤ length s.file.now

-- at the start of a file
pub record Starts (s : Cursor) (file work due least : List ℕ) : Type 0 where
  pub stands : Stands s
  pub place : s.at ≡ 0
  pub wanted : s.state.wanted ≡ OrderOpen
  pub boards : s.state.boards ≡ 0
  pub jobs : s.state.jobs ≡ 0
  pub level : s.state.level ≡ 0
  pub file_is : s.file.now ≡ file
  pub work_is : s.work.now ≡ work
  pub due_is : s.due.now ≡ due
  pub least_is : s.least.now ≡ least

-- what an end says of the buffers as they then are
unfoldable pub outcome_of : Result Order Fault → List ℕ → List ℕ → Outcome
outcome_of (Err fault) work due = refused fault.refusal fault.place
outcome_of (Ok order) work due = accepted order.boards (take order.jobs work) (take order.jobs due)

-- the lists that it names are there
abbrev pub Writable : Result Order Fault → List ℕ → List ℕ → Type 0
Writable (Err fault) work due = Unit {0}
Writable (Ok order) work due = (order.jobs ≤ length work) × (order.jobs ≤ length due)

-- what it says in numbers
unfoldable pub said_of : Result Order Fault → OrderRead
said_of (Err fault) = record { refusal = number_of fault.refusal; place = fault.place; boards = 0; jobs = 0 }
said_of (Ok order) = record { refusal = 0; place = 0; boards = order.boards; jobs = order.jobs }

pub record Answers (a : ReadAnswer) (ended : Result Order Fault) (work due : List ℕ) : Type 0 where
  pub said : said_of ended ≡ a.said
  pub works : work ≡ a.work
  pub dues : due ≡ a.due
