-- Three tests, one after the other; where all fail the bounds hold, and row 15 does not apply either.
use mathlib.Core.Path.{sym, ◌∙◌}
use Rattle.meaning.specs.Planner.{planner_rows}
use Rattle.theory.specs.Planner.{tested_sigma, allowed_sigma}
use Rattle.plan.specs.Structs.{passed_on}
use Rattle.plan.specs.Rows.{row_here, row_next, row_off}
use Rattle.planner.proofs.testing.allowed.Goals as goal

pub returns-in_err-row : goal.returns-in_err-row
unfolding planner_rows
returns-in_err-row c = passed_on _ _ c.from_residual.ensures.1 (rw (← c.outside-bad_passes.ensures) (row_here _ _ _ c.in_err-row.ensures))

pub returns-in_err-row-2 : goal.returns-in_err-row-2
unfolding planner_rows
returns-in_err-row-2 c =
    passed_on _ _ c.from_residual-in_err-row-2.ensures.1
    (rw (← c.outside-bad_passes.ensures, ← c.outside-bad_inner.ensures) (row_next _ _ tt c.in_ok-row.ensures (row_here _ _ _ c.in_err-row-2.ensures)))

pub returns-in_err-row-3 : goal.returns-in_err-row-3
unfolding planner_rows
returns-in_err-row-3 c =
    passed_on _ _ c.from_residual-in_err-row-3.ensures.1
    (rw (← c.outside-bad_passes.ensures, ← c.outside-bad_inner.ensures, ← c.outside-bad_sigma.ensures) (row_next _ _ tt c.in_ok-row.ensures (row_next _ _ tt c.in_ok-row-2.ensures (row_here _ _ _ c.in_err-row-3.ensures))))

pub returns : goal.returns
returns c =
    let passes = sym c.outside-bad_passes.ensures ∙ row_off _ tt c.in_ok-row.ensures in
    let inner = sym c.outside-bad_inner.ensures ∙ row_off _ tt c.in_ok-row-2.ensures in
    let sigma = sym c.outside-bad_sigma.ensures ∙ row_off _ tt c.in_ok-row-3.ensures in
    sym (allowed_sigma _ _ _ (tested_sigma _ _ _ (passes, (inner, (sigma, tt)))))
