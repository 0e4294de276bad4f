-- Of K equal stages, rows 1 to 4 are tests of the plan's numbers.
use Rattle.plan.specs.Structs.{passed_on}
use Rattle.plan.specs.Rows.{row_here, row_next}
use Rattle.plan.specs.Tested.{plan_tested}
use Rattle.plan.proofs.inner.allowed.Goals as goal

pub returns-in_err-row : goal.returns-in_err-row
returns-in_err-row c = passed_on _ _ c.from_residual.ensures.1 (plan_tested _ c.outside-passes.ensures c.outside-inner.ensures (row_here _ _ _ c.in_err-row.ensures))

pub returns-in_err-row-2 : goal.returns-in_err-row-2
returns-in_err-row-2 c =
    passed_on _ _ c.from_residual-in_err-row-2.ensures.1
    (plan_tested _ c.outside-passes.ensures c.outside-inner.ensures (row_next _ _ tt c.in_ok-row.ensures (row_here _ _ _ c.in_err-row-2.ensures)))

pub returns-in_err-row-3 : goal.returns-in_err-row-3
returns-in_err-row-3 c =
    passed_on _ _ c.from_residual-in_err-row-3.ensures.1
    (plan_tested _ c.outside-passes.ensures c.outside-inner.ensures (row_next _ _ tt c.in_ok-row.ensures (row_next _ _ tt c.in_ok-row-2.ensures (row_here _ _ _ c.in_err-row-3.ensures))))

pub returns : goal.returns
returns c =
    plan_tested _ c.outside-passes.ensures c.outside-inner.ensures
    (row_next _ _ tt c.in_ok-row.ensures (row_next _ _ tt c.in_ok-row-2.ensures (row_next _ _ tt c.in_ok-row-3.ensures c.row-4.ensures)))
