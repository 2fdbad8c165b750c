-- The numbers of the definition's answer that a result stands for: each result has its own.
use Rattle.std.specs.Prelude.{◌≡◌, Result, Ok, Err, List, ℕ}
use Rattle.rules.specs.declared.Planned.{Planned}
use Rattle.refusals.specs.declared.Fault.{Fault}
use Rattle.rules.specs.Refusals.{number_of}
use Rattle.rules.specs.Planning.{PlanAnswer}

-- "Refused: count 0"
abbrev pub planned_of : Result ℕ Fault → Planned
planned_of (Ok rows) = record { refusal = 0; place = 0; rows = rows }
planned_of (Err fault) = record { refusal = number_of fault.refusal; place = fault.place; rows = 0 }

-- result and later table are the definition's answer
pub record Answered (a : PlanAnswer) (result : Result ℕ Fault) (table' : List ℕ) : Type 0 where
  pub said : planned_of result ≡ a.said
  pub later : table' ≡ a.table
