-- 0, accepted, is no refusal's number.
use Rattle.std.specs.Prelude.{◌≡◌}
use Rattle.std.proofs.Common.{arith}
use Rattle.rules.specs.declared.Refusal.{Refusal}
use Rattle.rules.specs.declared.Refusal.TheVariants.{ForeignByte, NotAllowed, Unclosed, NoNumber, AboveLimit, TooDeep, TooManyJobs, NoJob, NoPlan, ShortBuffer, LongFile, BadBoards, BadLists, OutOfRange, BadTrailer}
use Rattle.rules.specs.Refusals.{number_of}

pub number_above : (r : Refusal) → number_of r ≡ 0 → ⊥
unfolding number_of
number_above ForeignByte e = omega arith
number_above NotAllowed e = omega arith
number_above Unclosed e = omega arith
number_above NoNumber e = omega arith
number_above AboveLimit e = omega arith
number_above TooDeep e = omega arith
number_above TooManyJobs e = omega arith
number_above NoJob e = omega arith
number_above NoPlan e = omega arith
number_above ShortBuffer e = omega arith
number_above LongFile e = omega arith
number_above BadBoards e = omega arith
number_above BadLists e = omega arith
number_above OutOfRange e = omega arith
number_above BadTrailer e = omega arith
