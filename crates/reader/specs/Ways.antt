-- From one place of a file to the next, and to the end of the reading.
use Rattle.std.specs.Prelude.{◌≡◌, Result, Ok, Err, Option, Some, None, List, ◌⊎◌, ℕ, ◌+◌, ◌≤◌, ◌<◌, length}
use Rattle.rules.specs.declared.Wanted.{Wanted}
use Rattle.rules.specs.declared.Wanted.TheVariants.{OrderOpen, OrderWord, Boards, ItemOrClose, ItemWord, GroupDue, JobWork, JobDue, JobClose, Finish}
use Rattle.rules.specs.Basics.{most_jobs, most_bytes}
use Rattle.refusals.specs.declared.Fault.{Fault}
use Rattle.grammar.specs.declared.Order.{Order}
use Rattle.grammar.specs.declared.Cursor.{Cursor}
use Rattle.grammar.specs.Turns.{Stands, Long, Finished}

-- Neither 10 nor 11: the buffers are long enough, and the file is short enough.
pub record Fits (file work due : List ℕ) : Type 0 where
  pub long_work : most_jobs ≤ length work
  pub long_due : most_jobs ≤ length due
  pub short_file : length file ≤ most_bytes

-- A place at which the cursor holds a reading, lists that are long enough, and a file that is short enough.
pub record Ready (s : Cursor) : Type 0 where
  pub stands : Stands s
  pub long : Long s
  pub short_file : length s.file.now ≤ most_bytes

-- `)` leaves the order, or the innermost group
abbrev pub Closes : ℕ → Wanted → ℕ → Type 0
Closes level wanted later = ((level ≡ 0) × (wanted ≡ Finish)) ⊎ ((level ≡ later + 1) × (wanted ≡ ItemOrClose))

-- what one token that goes on makes of what is wanted and of the level
abbrev pub Moved : Wanted → ℕ → Wanted → ℕ → Type 0
Moved OrderOpen level wanted later = (wanted ≡ OrderWord) × (later ≡ level)
Moved OrderWord level wanted later = (wanted ≡ Boards) × (later ≡ level)
Moved Boards level wanted later = (wanted ≡ ItemOrClose) × (later ≡ level)
Moved ItemOrClose level wanted later = ((wanted ≡ ItemWord) × (later ≡ level)) ⊎ Closes level wanted later
Moved ItemWord level wanted later = ((wanted ≡ GroupDue) × (later ≡ level) × (level < 32)) ⊎ ((wanted ≡ JobWork) × (later ≡ level))
Moved GroupDue level wanted later = (wanted ≡ ItemOrClose) × (later ≡ level + 1)
Moved JobWork level wanted later = (wanted ≡ JobDue) × (later ≡ level)
Moved JobDue level wanted later = (wanted ≡ JobClose) × (later ≡ level)
Moved JobClose level wanted later = (wanted ≡ ItemOrClose) × (later ≡ level)
Moved Finish level wanted later = ⊥

-- A later place of the same file, at which P holds.
pub record Onward (P : Cursor → Type 0) (s s' : Cursor) : Type 0 where
  pub ready : Ready s'
  pub later : s.at < s'.at
  pub there : P s'

-- One token: a later place, or the end of the reading; an order is whole only where its end was wanted.
abbrev pub Steps : Cursor → Result (Option Order) Fault → Cursor → Type 0
Steps s (Ok None) s' = Onward (λ x. Moved s.state.wanted s.state.level x.state.wanted x.state.level) s s'
Steps s (Ok (Some order)) s' = Finished s.file.now (Ok order) s'.work.now s'.due.now × (s.state.wanted ≡ Finish)
Steps s (Err fault) s' = Finished s.file.now (Err fault) s'.work.now s'.due.now
