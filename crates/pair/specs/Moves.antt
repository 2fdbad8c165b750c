-- From one place of a file to a later one.
use Rattle.std.specs.Prelude.{◌≡◌, Result, Ok, Err, ℕ}
use Rattle.rules.specs.declared.Wanted.{Wanted}
use Rattle.rules.specs.declared.Wanted.TheVariants.{OrderOpen, OrderWord, Boards, ItemOrClose, ItemWord, GroupDue, JobWork, JobDue, JobClose, Finish}
use Rattle.refusals.specs.declared.Fault.{Fault}
use Rattle.grammar.specs.declared.Cursor.{Cursor}
use Rattle.grammar.specs.Turns.{Finished}
use Rattle.reader.specs.Ways.{Onward}

-- behind an item the next item or the closing bracket is wanted, at the same level
abbrev pub Stays : Cursor → Cursor → Type 0
Stays s x = (x.state.wanted ≡ ItemOrClose) × (x.state.level ≡ s.state.level)

-- the tokens to go, none of them left to choice, until an item or a closing bracket is wanted; 9 where that is not so
unfoldable pub togo : Wanted → ℕ
togo OrderOpen = 3
togo OrderWord = 2
togo Boards = 1
togo ItemOrClose = 0
togo ItemWord = 9
togo GroupDue = 9
togo JobWork = 3
togo JobDue = 2
togo JobClose = 1
togo Finish = 9

-- A later place of which P holds, or the refusal of the file.
abbrev pub To : (Cursor → Type 0) → Cursor → Result Unit Fault → Cursor → Type 0
To P s (Ok u) s' = Onward P s s'
To P s (Err fault) s' = Finished s.file.now (Err fault) s'.work.now s'.due.now
