-- Rows 5 to 8 are four tests in a row.
use Rattle.meaning.specs.Refusals.{size_rows}
use Rattle.plan.specs.Structs.{passed_on}
use Rattle.plan.specs.Rows.{row_here, row_next}
use Rattle.refusals.proofs.inner.sizes_allowed.Goals as goal

pub returns-in_err-row : goal.returns-in_err-row
unfolding size_rows
returns-in_err-row c = passed_on _ _ c.from_residual.ensures.1 (rw (← c.outside-bad_bound.ensures) (row_here _ _ _ c.in_err-row.ensures))

pub returns-in_err-row-2 : goal.returns-in_err-row-2
unfolding size_rows
returns-in_err-row-2 c = passed_on _ _ c.from_residual-in_err-row-2.ensures.1 (rw (← c.outside-bad_bound.ensures) (row_next _ _ tt c.in_ok-row.ensures (row_here _ _ _ c.in_err-row-2.ensures)))

pub returns-in_err-row-3 : goal.returns-in_err-row-3
unfolding size_rows
returns-in_err-row-3 c =
    passed_on _ _ c.from_residual-in_err-row-3.ensures.1
    (rw (← c.outside-bad_bound.ensures) (row_next _ _ tt c.in_ok-row.ensures (row_next _ _ tt c.in_ok-row-2.ensures (row_here _ _ _ c.in_err-row-3.ensures))))

pub returns : goal.returns
unfolding size_rows
returns c =
    rw (← c.outside-bad_bound.ensures) (row_next _ _ tt c.in_ok-row.ensures (row_next _ _ tt c.in_ok-row-2.ensures (row_next _ _ tt c.in_ok-row-3.ensures c.row-4.ensures)))
