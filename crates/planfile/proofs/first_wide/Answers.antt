-- The rows are gone through as chunks of four numbers; the definition counts them from 1.
use Rattle.std.proofs.Common.{◌+◌, ℕ, not, option_map, ap, sym, ◌∙◌, rules, tests}
use Rattle.std.proofs.lemmas.Iterator.Search.{position_from_yields_List}
use Rattle.rules.specs.Plans.{Row}
use Rattle.rules.specs.PlanFiles.{row_fits}
use Rattle.tablerows.specs.Chunks.{rows_in, row_chunks}
use Rattle.planfile.specs.Writes.{wide_found}
use Rattle.planfile.proofs.first_wide.Goals as goal

pub returns-in_err-before-clause-first : goal.returns-in_err-before-clause-first
returns-in_err-before-clause-first c =
    c.from_residual.ensures ∙ ap (option_map (λ (n : ℕ). n + 1)) (sym c.in_err-before.was)
    ∙ wide_found (rows_in c.args.rows.now) _
    (position_from_yields_List (λ (r : Row). not (row_fits r)) _ _ c.position.result c.position.ensures.ran
    (row_chunks c.args.rows.now _ c.chunks_exact.ensures.rest c.chunks_exact.ensures.size) (λ x b q k. search (rules, tests)))

pub returns-clause-first : goal.returns-clause-first
returns-clause-first c =
    ap (option_map (λ (n : ℕ). n + 1)) (sym c.in_ok-before.was)
    ∙ wide_found (rows_in c.args.rows.now) _
    (position_from_yields_List (λ (r : Row). not (row_fits r)) _ _ c.position.result c.position.ensures.ran
    (row_chunks c.args.rows.now _ c.chunks_exact.ensures.rest c.chunks_exact.ensures.size) (λ x b q k. search (rules, tests)))
