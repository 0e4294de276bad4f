-- Rows 1 to 8, and where none applies row 9.
use Rattle.meaning.specs.Refusals.{series_of}
use Rattle.theory.specs.Refusals.{common_numbered}
use Rattle.plan.specs.Structs.{stages_of, passed_on}
use Rattle.plan.specs.Rows.{rows_here, rows_next}
use Rattle.refusals.proofs.inner.position_allowed.Goals as goal

pub returns-in_err-series_allowed : goal.returns-in_err-series_allowed
returns-in_err-series_allowed c = passed_on _ _ c.from_residual.ensures.1 (rows_here _ _ _ c.in_err-series_allowed.ensures)

pub returns : goal.returns
returns c =
    let a = c.args in
    rows_next _ _ (common_numbered (series_of (stages_of a.plan) a.cells) a.bound _) c.in_ok-series_allowed.ensures c.row.ensures
