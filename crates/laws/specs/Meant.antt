-- The job and the row of the definitions that a job and a row of the code stand for.
use Rattle.rules.specs.declared.Job.{Job}
use Rattle.rules.specs.declared.TableRow.{TableRow}
use Rattle.rules.specs.Plans as plans

abbrev pub job_meant : Job → plans.Job
job_meant j = record { number = j.number; work = j.work; due = j.due }

abbrev pub row_meant : TableRow → plans.Row
row_meant r = record { board = r.board; job = r.job; from = r.from; to = r.to }
