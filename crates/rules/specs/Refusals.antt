-- Refusal numbers, as the table of document 01 lists them; 0 is "accepted".
use Rattle.std.specs.Prelude.{ℕ}
use Rattle.rules.specs.declared.Refusal.{Refusal}
use Rattle.rules.specs.declared.Refusal.TheVariants.{ForeignByte, NotAllowed, Unclosed, NoNumber, AboveLimit, TooDeep, TooManyJobs, NoJob, NoPlan, ShortBuffer, LongFile, BadBoards, BadLists, OutOfRange, BadTrailer}

unfoldable pub number_of : Refusal → ℕ
number_of ForeignByte = 1
number_of NotAllowed = 2
number_of Unclosed = 3
number_of NoNumber = 4
number_of AboveLimit = 5
number_of TooDeep = 6
number_of TooManyJobs = 7
number_of NoJob = 8
number_of NoPlan = 9
number_of ShortBuffer = 10
number_of LongFile = 11
number_of BadBoards = 12
number_of BadLists = 13
number_of OutOfRange = 14
number_of BadTrailer = 15
