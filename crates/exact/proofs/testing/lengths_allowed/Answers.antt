-- Row 7, and where it does not apply row 8.
use Rattle.meaning.specs.Exact.{length_rows}
use Rattle.plan.specs.Structs.{passed_on}
use Rattle.plan.specs.Rows.{row_here, row_next}
use Rattle.exact.proofs.testing.lengths_allowed.Goals as goal

pub returns-in_err-row : goal.returns-in_err-row
unfolding length_rows
returns-in_err-row c = passed_on _ _ c.from_residual.ensures.1 (rw (← c.outside-bad_size.ensures) (row_here _ _ _ c.in_err-row.ensures))

pub returns : goal.returns
unfolding length_rows
returns c = rw (← c.outside-bad_size.ensures) (row_next _ _ tt c.in_ok-row.ensures c.row-2.ensures)
