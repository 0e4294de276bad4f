-- Rows 7 and 8, and where neither applies the row of what is converted.
use Rattle.meaning.specs.Exact.{length_rows, back_rows}
use Rattle.plan.specs.Structs.{passed_on}
use Rattle.plan.specs.Rows.{rows_here, rows_next}
use Rattle.exact.proofs.testing.doubles_allowed.Goals as goal

pub returns-in_err-lengths_allowed : goal.returns-in_err-lengths_allowed
unfolding back_rows
returns-in_err-lengths_allowed c = passed_on _ _ c.from_residual.ensures.1 (rows_here _ _ _ c.in_err-lengths_allowed.ensures)

pub returns : goal.returns
unfolding back_rows length_rows
returns c = rows_next _ _ tt c.in_ok-lengths_allowed.ensures c.doubles_allowed.ensures
