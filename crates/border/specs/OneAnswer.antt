-- Two answers that meet one contract are equal: what is said, and what each lent buffer holds afterwards. One law for each
-- exported function, all by `same_answer`.
use Rattle.std.specs.Prelude.{◌≡◌, List, ℕ}
use Rattle.rules.specs.declared.OrderRead.{OrderRead}
use Rattle.rules.specs.declared.Planned.{Planned}
use Rattle.rules.specs.declared.Checked.{Checked}
use Rattle.rules.specs.declared.RowPart.{RowPart}
use Rattle.rules.specs.declared.Written.{Written}
use Rattle.rules.specs.Orders.{read_answer}
use Rattle.rules.specs.Planning.{plan_answer}
use Rattle.rules.specs.Checking.{check_answer}
use Rattle.rules.specs.PlanFiles.{part_answer, part_of, write_answer}
use Rattle.rules.specs.declared.TableRow.{TableRow}
use Rattle.planfile.specs.Rows.{table_row, row_at}
use Rattle.laws.specs.Tests.{same_answer}

-- the clauses said, works and dues of `tuffbasket_read_order`
pub record Reads (file work due : List ℕ) (r : OrderRead) (work' due' : List ℕ) : Type 0 where
  pub said : r ≡ (read_answer file work due).said
  pub works : work' ≡ (read_answer file work due).work
  pub dues : due' ≡ (read_answer file work due).due

pub read_once : (file work due : List ℕ) (r s : OrderRead) (w v d e : List ℕ) → Reads file work due r w d → Reads file work due s v e → (r ≡ s) × (w ≡ v) × (d ≡ e)
read_once file work due r s w v d e p q = (same_answer p.said q.said, same_answer p.works q.works, same_answer p.dues q.dues)

-- the clauses said and later of `tuffbasket_plan`; its other clauses follow from them
pub record Plans (m : ℕ) (works dues table : List ℕ) (r : Planned) (table' : List ℕ) : Type 0 where
  pub said : r ≡ (plan_answer m works dues table).said
  pub later : table' ≡ (plan_answer m works dues table).table

pub plan_once : (m : ℕ) (works dues table : List ℕ) (r s : Planned) (t u : List ℕ) → Plans m works dues table r t → Plans m works dues table s u → (r ≡ s) × (t ≡ u)
plan_once m works dues table r s t u p q = (same_answer p.said q.said, same_answer p.later q.later)

pub check_once : (m : ℕ) (works dues table : List ℕ) (rows : ℕ) (r s : Checked) → r ≡ check_answer m works dues table rows → s ≡ check_answer m works dues table rows → r ≡ s
check_once m works dues table rows r s p q = same_answer p q

pub find_once : (file : List ℕ) (r s : RowPart) → r ≡ part_answer file → s ≡ part_answer file → r ≡ s
find_once file r s p q = same_answer p q

pub row_once : (file : List ℕ) (i : ℕ) (r s : TableRow) → r ≡ table_row (row_at (part_of file) i) → s ≡ table_row (row_at (part_of file) i) → r ≡ s
row_once file i r s p q = same_answer p q

-- the clauses said and later of `tuffbasket_write_plan`
pub record Writes (table : List ℕ) (count : ℕ) (buffer : List ℕ) (note : ℕ) (r : Written) (buffer' : List ℕ) : Type 0 where
  pub said : r ≡ (write_answer table count buffer note).said
  pub later : buffer' ≡ (write_answer table count buffer note).buffer

pub write_once : (table : List ℕ) (count : ℕ) (buffer : List ℕ) (note : ℕ) (r s : Written) (b c : List ℕ) → Writes table count buffer note r b → Writes table count buffer note s c → (r ≡ s) × (b ≡ c)
write_once table count buffer note r s b c p q = (same_answer p.said q.said, same_answer p.later q.later)
